-- `plan` calls itself for half its leaves.
use Rattle.test_plans.proofs.+plan.Given as goal

abbrev pub decreases-plan : goal.decreases-plan
decreases-plan l = l.leaves
