-- The net line, the links and the functions, one after another, are the normal file. Assumes nothing.
use Rattle.file_normal.proofs.Parts.{file_wrote}
use Rattle.file_normal.proofs.lines.put_network.Goals as goal

pub returns : goal.returns
returns c = let a = c.args in file_wrote a.z a.links.now a.funs.now c.put_net.ensures c.put_links.ensures c.put_funs.ensures
