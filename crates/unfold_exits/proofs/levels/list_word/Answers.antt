use Rattle.unfold_exits.proofs.Places.{word_past}
use Rattle.unfold_exits.proofs.levels.list_word.Goals as goal

pub returns-then-word-eq0 : goal.returns-then-word-eq0
returns-then-word-eq0 c = word_past c.args.q c.requires.3 _ c.word.ensures c.if-word-eq0.true
