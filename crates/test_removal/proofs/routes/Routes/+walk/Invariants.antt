-- `walk` calls itself with one step fewer left.
use Rattle.test_removal.proofs.routes.Routes.+walk.Given as goal

abbrev pub decreases-walk : goal.decreases-walk
decreases-walk l = l.route.left
