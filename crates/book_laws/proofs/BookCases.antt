-- Books are judged, and decide, as the examples say: by computation. They stand here and not with the definitions, so that no edit of these computes them anew.
use mathlib.Core.Path.{◌≡◌, refl}
use mathlib.Core.Bool.{true}
use Rattle.definitions.specs.Lists.{all?}
use Rattle.definitions.specs.NumberCases.{agrees}
use Rattle.definitions.specs.BookCases.{book_texts, book_decisions, block_decisions}
use Rattle.definitions.specs.Computing.{computing}

pub book_texts_lem : all? agrees book_texts ≡ true
unfolding computing
book_texts_lem = refl

pub book_decisions_lem : all? agrees book_decisions ≡ true
unfolding computing
book_decisions_lem = refl

pub block_decisions_lem : all? agrees block_decisions ≡ true
unfolding computing
block_decisions_lem = refl
