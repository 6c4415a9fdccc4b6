-- `sound_users::users_legal` meets its contract: the rules of each entry and of each pair are those of the area. Assumes nothing.
use Rattle.std.proofs.Common.{arith}
use Rattle.std.proofs.lemmas.Grind.{common_steps}
use Rattle.sound_users.proofs.UserLaws.{three_legal}
use Rattle.sound_users.proofs.users_legal.Goals as goal

pub returns-then-pair_legal-2 : goal.returns-then-pair_legal-2
returns-then-pair_legal-2 c = grind (arith, common_steps, three_legal)
