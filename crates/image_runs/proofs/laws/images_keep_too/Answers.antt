use Rattle.word_ir.specs.Names.{image_names}
use Rattle.static_bytes.specs.Bytes.{static_bytes}
use Rattle.image_runs.proofs.laws.images_keep_too.Goals as goal

pub returns-clause-seen : goal.returns-clause-seen
returns-clause-seen c words a sizes can =
    c.bytes_run_as_items.ensures.seen (image_names words.shared.names) a.items a.bytes a.labels (static_bytes words.statics.items a.labels) words.entry sizes a.are can

pub returns-clause-safe : goal.returns-clause-safe
returns-clause-safe c words a sizes can safe k =
    c.bytes_run_as_items.ensures.safe (image_names words.shared.names) a.items a.bytes a.labels (static_bytes words.statics.items a.labels) words.entry sizes a.are can safe k

pub returns-clause-within : goal.returns-clause-within
returns-clause-within c words a sizes can room f g x keeps =
    c.bytes_keep_too.ensures.within (image_names words.shared.names) a.items a.bytes a.labels (static_bytes words.statics.items a.labels) words.entry sizes a.are can room f g x keeps

pub returns-clause-alike : goal.returns-clause-alike
returns-clause-alike c words a sizes can f g x keeps =
    c.bytes_keep_too.ensures.alike (image_names words.shared.names) a.items a.bytes a.labels (static_bytes words.statics.items a.labels) words.entry sizes a.are can f g x keeps
