use Rattle.network.proofs.Walks.{links_stretch}
use Rattle.network.proofs.Network.links_of.Goals as goal

pub returns-clause-stretch : goal.returns-clause-stretch
returns-clause-stretch c =
    let s = c.stretch.ensures in
    links_stretch _ _ s.arranged c.requires _ _ s.from s.to
