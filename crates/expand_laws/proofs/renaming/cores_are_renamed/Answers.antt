use Rattle.std.proofs.Common.{sym, ◌∙◌}
use Rattle.expand_laws.proofs.CoresWalked.{cores_walked, cores_alike}
use Rattle.expand_laws.proofs.FormWalks.{FormsWalked}
use Rattle.expand_laws.proofs.OneToOne.{one_to_one}
use Rattle.expand_laws.proofs.SameDefinitions.{globals_same, ops_same}
use Rattle.expand_laws.proofs.SameCounts.{count_alike}
use Rattle.expand_laws.proofs.renaming.cores_are_renamed.Goals as goal

pub returns : goal.returns
returns c trees unit other spans others core also =
    let walked : FormsWalked unit.forms.items other.forms.items spans others unit.shared other.shared = cores_walked trees unit other spans others core also in
    let alike = cores_alike trees unit other spans others core also in
    record {
      renaming = walked.pairs;
      one_to_one = one_to_one unit other walked.pairs spans others core.whole also.whole walked.each alike;
      forms = alike;
      globals = globals_same unit other core.whole also.whole walked.pairs spans others alike (sym core.globals ∙ also.globals);
      size = (count_alike unit other walked.pairs spans others core.whole also.whole alike).size;
      ops = ops_same unit other core.whole also.whole walked.pairs spans others alike (sym core.ops ∙ also.ops);
    }
