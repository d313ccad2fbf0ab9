use Rattle.cps_ir.proofs.Bytes.{forms_leave_room, bytes_are_few, code_fits}
use Rattle.cps_ir.proofs.laws.code_fits_an_image.Goals as goal

pub returns-clause-forms : goal.returns-clause-forms
returns-clause-forms c = forms_leave_room

pub returns-clause-bytes : goal.returns-clause-bytes
returns-clause-bytes c = bytes_are_few

pub returns-clause-once : goal.returns-clause-once
returns-clause-once c = code_fits
