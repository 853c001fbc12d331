-- A kind and a record of the code, as the paper has them. Assumes nothing: these are definitions.
use Rattle.std.specs.Prelude.{ℕ, ◌≡◌}
use Rattle.paper.specs.Net as net
use Rattle.network_records.specs.Columns.{kind_of_code}
use Rattle.network_records.specs.declared.kind.Kind.{Kind}
use Rattle.network_records.specs.declared.kind.Kind.TheVariants.{Conv, Wrap, Unwrap}
use Rattle.network_records.specs.declared.record.Link.{Link}
use Rattle.network_records.specs.declared.record.Fun.{Fun}

abbrev pub named : Kind → net.Kind
named Conv = net.conv
named Wrap = net.wrap
named Unwrap = net.unwrap

-- the kind is the one that the number stands for
abbrev pub Decodes : ℕ → Kind → Type 0
Decodes code kind = named kind ≡ kind_of_code code

abbrev pub link_of : Link → net.Link
link_of l = net.link l.number l.from l.to l.weight

abbrev pub fun_of : Fun → net.Fun
fun_of f = net.fun f.node (named f.kind) f.x f.y f.weight
