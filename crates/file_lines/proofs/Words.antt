-- The words of a line: no two are the same, so that one word and the number of fields decide. Assumes nothing.
use Rattle.std.proofs.Common.{◌≡◌, refl, sym, true, false, List, ℕ, length, eqb, Some, None}
use Rattle.paper.specs.Text.{fields, bytes, same, net_word, link_word, fun_word, conv_word, wrap_word, unwrap_word}
use Rattle.paper.specs.File.{kind_of, shaped}
use Rattle.laws.proofs.Before.{same_eq}
use Rattle.network_records.specs.declared.kind.Kind.TheVariants.{Conv, Wrap, Unwrap}
use Rattle.file_fields.specs.Fields.{field_of}
use Rattle.file_lines.specs.Said.{kind_told, told_kind, said_of}
use Rattle.file_lines.proofs.Told.{net_shape, link_shape, fun_shape}

other : (f a b : List ℕ) → true ≡ same f a → same a b ≡ false → same f b ≡ false
other f a b e d = rw (same_eq f a (sym e)) d

-- ## Kind words

module _ (f : List ℕ) where
  pub kind_conv : true ≡ same f (bytes "conv") → Some Conv ≡ told_kind (kind_of f)
  unfolding kind_of told_kind kind_told conv_word
  kind_conv e = rw (← e)

  pub kind_wrap : false ≡ same f (bytes "conv") → true ≡ same f (bytes "wrap") → Some Wrap ≡ told_kind (kind_of f)
  unfolding kind_of told_kind kind_told conv_word wrap_word
  kind_wrap d e = rw (← d, ← e)

  pub kind_unwrap : false ≡ same f (bytes "conv") → false ≡ same f (bytes "wrap") → true ≡ same f (bytes "unwrap") → Some Unwrap ≡ told_kind (kind_of f)
  unfolding kind_of told_kind kind_told conv_word wrap_word unwrap_word
  kind_unwrap c d e = rw (← c, ← d, ← e)

  pub no_kind : false ≡ same f (bytes "conv") → false ≡ same f (bytes "wrap") → false ≡ same f (bytes "unwrap") → None ≡ told_kind (kind_of f)
  unfolding kind_of told_kind conv_word wrap_word unwrap_word
  no_kind c d e = rw (← c, ← d, ← e)

pub ruleset kinds = (kind_conv, kind_wrap, kind_unwrap, no_kind)

-- ## The word and the number of fields decide

module _ (l : List ℕ) where
  pub net_shaped : true ≡ same (field_of l 0) (bytes "net") → true ≡ eqb (length (fields l)) 3 → said_of (net_shape l) ≡ said_of (shaped (fields l))
  unfolding shaped net_word
  net_shaped w n = rw (← w, ← n)

  pub link_shaped : true ≡ same (field_of l 0) (bytes "link") → true ≡ eqb (length (fields l)) 5 → said_of (link_shape l) ≡ said_of (shaped (fields l))
  unfolding shaped net_word link_word same
  link_shaped w n = rw (other (field_of l 0) (bytes "link") (bytes "net") w refl, ← w, ← n)

  pub fun_shaped : true ≡ same (field_of l 0) (bytes "fun") → true ≡ eqb (length (fields l)) 6 → said_of (fun_shape l) ≡ said_of (shaped (fields l))
  unfolding shaped net_word link_word fun_word same
  fun_shaped w n = rw (other (field_of l 0) (bytes "fun") (bytes "net") w refl, other (field_of l 0) (bytes "fun") (bytes "link") w refl, ← w, ← n)

  pub no_net : true ≡ same (field_of l 0) (bytes "net") → false ≡ eqb (length (fields l)) 3 → None ≡ said_of (shaped (fields l))
  unfolding shaped said_of net_word
  no_net w n = rw (← w, ← n)

  pub no_link : true ≡ same (field_of l 0) (bytes "link") → false ≡ eqb (length (fields l)) 5 → None ≡ said_of (shaped (fields l))
  unfolding shaped said_of net_word link_word same
  no_link w n = rw (other (field_of l 0) (bytes "link") (bytes "net") w refl, ← w, ← n)

  pub no_fun : true ≡ same (field_of l 0) (bytes "fun") → false ≡ eqb (length (fields l)) 6 → None ≡ said_of (shaped (fields l))
  unfolding shaped said_of net_word link_word fun_word same
  no_fun w n = rw (other (field_of l 0) (bytes "fun") (bytes "net") w refl, other (field_of l 0) (bytes "fun") (bytes "link") w refl, ← w, ← n)

  pub no_word : false ≡ same (field_of l 0) (bytes "net") → false ≡ same (field_of l 0) (bytes "link") → false ≡ same (field_of l 0) (bytes "fun") → None ≡ said_of (shaped (fields l))
  unfolding shaped said_of net_word link_word fun_word
  no_word u v w = rw (← u, ← v, ← w)

pub ruleset shapes = (net_shaped, link_shaped, fun_shaped, no_net, no_link, no_fun, no_word)
