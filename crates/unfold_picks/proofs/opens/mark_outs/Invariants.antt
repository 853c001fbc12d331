use mathlib.Core.Path.{◌≡◌}
use lib.ListN.{length}
use Rattle.network.specs.Network.{places}
use Rattle.unfold_frames.specs.Frames.{words_for}
use Rattle.unfold_picks.specs.Opening.{Adds, MeetsOne}
use Rattle.unfold_picks.proofs.opens.mark_outs.Given as goal

abbrev pub invariant-loop-out : goal.invariant-loop-out
invariant-loop-out l =
    Adds (words_for (places l.solved.net.now)) l.o (MeetsOne l.solved.tables.weight.now l.solved.tables.count.now l.outs l.row l.left l.out-index) l.initial.choice l.choice × (length l.choice ≡ length l.initial.choice)
