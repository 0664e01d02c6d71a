-- `put_header` stores seven words.
use Rattle.medlarbrace.proofs.Opened.{stored}
use Rattle.medlarbrace.proofs.files.put_header.Goals as goal

pub returns : goal.returns
returns c = let h = c.args.h in stored c.args.out.now h.nodes h.arcs h.rounds h.source h.target h.n1 h.n2 c.requires.room
