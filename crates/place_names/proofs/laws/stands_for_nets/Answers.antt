use Rattle.place_names.proofs.Naming.{moments_same}
use Rattle.place_names.proofs.laws.stands_for_nets.Goals as goal

pub returns-clause-values : goal.returns-clause-values
returns-clause-values c = λ count net source other given given' stand place time l. (moments_same count net source other given given' stand time).values place l

pub returns-clause-contents : goal.returns-clause-contents
returns-clause-contents c = λ count net source other given given' stand place time l. (moments_same count net source other given given' stand time).contents place l
