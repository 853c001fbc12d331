use Rattle.enquiry.proofs.Pairs.{paired_at}
use Rattle.enquiry.proofs.travel.pair.Goals as goal

pub returns : goal.returns
returns c =
    let n = c.places.ensures in
    let u = c.number_of.ensures in
    let v = c.number_of-2.ensures in
    (rw (n.0, u.0, v.0), rw n.0 (paired_at _ _ _ (rw n.0 at n.2) u.1 v.1).0)
