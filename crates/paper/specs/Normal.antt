-- The normal file: the net line, links rising by number, functions rising by node, kind, x, y.
-- The records of an accepted file are kept in that order (`File.put`). Assumes nothing: these are definitions.
use Rattle.std.specs.Prelude.{List, [], ◌∷◌, ◌++◌, ℕ}
use Rattle.paper.specs.Text.{decimal, written, net_word, link_word, fun_word, conv_word, wrap_word, unwrap_word}
use Rattle.paper.specs.Net.{Kind, conv, wrap, unwrap, Link, link, Fun, fun, Net, net}

unfoldable pub kind_word : Kind → List ℕ
kind_word conv = conv_word
kind_word wrap = wrap_word
kind_word unwrap = unwrap_word

unfoldable pub link_text : Link → List ℕ
link_text (link l u v w) = written link_word (decimal l ∷ decimal u ∷ decimal v ∷ decimal w ∷ [])

unfoldable pub fun_text : Fun → List ℕ
fun_text (fun v k x y w) = written fun_word (decimal v ∷ kind_word k ∷ decimal x ∷ decimal y ∷ decimal w ∷ [])

unfoldable pub net_text : ℕ → ℕ → List ℕ
net_text n p = written net_word (decimal n ∷ decimal p ∷ [])

module _ {A : Type 0} (text : A → List ℕ) where
  unfoldable pub texts : List A → List ℕ
  texts [] = []
  texts (r ∷ rs) = text r ++ texts rs

unfoldable pub normal : Net → List ℕ
normal (net n p ls fs) = net_text n p ++ texts link_text ls ++ texts fun_text fs
