use Rattle.expand_laws.proofs.CoresWalked.{cores_walked, cores_alike}
use Rattle.expand_laws.proofs.SameCounts.{count_alike}
use Rattle.expand_laws.proofs.renaming.cores_count_alike.Goals as goal

pub returns : goal.returns
returns c trees unit other spans others core also =
    count_alike unit other (cores_walked trees unit other spans others core also).pairs spans others core.whole also.whole
    (cores_alike trees unit other spans others core also)
