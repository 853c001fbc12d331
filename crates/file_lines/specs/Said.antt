-- What the reader says of a line: the line's shape in numbers of 32 bits. Assumes nothing: these are definitions.
use Rattle.std.specs.Prelude.{Option as Read, Some, None}
use Rattle.std.proofs.Math.Option.{Option, none, some}
use Rattle.paper.specs.Net as net
use Rattle.paper.specs.File.{Shape, misshapen, net_line, link_line, fun_line}
use Rattle.digits.specs.Read.{few}
use Rattle.network_records.specs.declared.kind.Kind.{Kind}
use Rattle.network_records.specs.declared.kind.Kind.TheVariants.{Conv, Wrap, Unwrap}
use Rattle.file_lines.specs.declared.Said.{Said}
use Rattle.file_lines.specs.declared.Said.TheVariants.{Net as SaidNet, Link as SaidLink, Fun as SaidFun}

-- a kind of the paper, as the code has it
unfoldable pub kind_told : net.Kind → Kind
kind_told net.conv = Conv
kind_told net.wrap = Wrap
kind_told net.unwrap = Unwrap

unfoldable pub told_kind : Option net.Kind → Read Kind
told_kind none = None
told_kind (some k) = Some (kind_told k)

unfoldable pub said_of : Shape → Read Said
said_of misshapen = None
said_of (net_line n p) = Some (SaidNet (few n) (few p))
said_of (link_line (net.link l u v w)) = Some (SaidLink (record { number = few l; from = few u; to = few v; weight = few w }))
said_of (fun_line (net.fun v k x y w)) = Some (SaidFun (record { node = few v; kind = kind_told k; x = few x; y = few y; weight = few w }))
