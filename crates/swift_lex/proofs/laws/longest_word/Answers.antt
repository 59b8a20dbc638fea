use Rattle.swift_lex.specs.Words.{is_word}
use Rattle.swift_lex.proofs.ItemLaws.{longest_taken, longest_longer}
use Rattle.swift_lex.proofs.laws.longest_word.Goals as goal

pub returns : goal.returns
returns c = record { taken = λ bs some. longest_taken is_word bs some; longer = λ bs n lt le. longest_longer is_word bs n lt le }
