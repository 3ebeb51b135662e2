-- byte_test is read, written and refused as its examples say, and holds on document 01's payload where they say: by computation.
use mathlib.Core.Path.{◌≡◌, refl}
use mathlib.Core.Bool.{true}
use Rattle.definitions.specs.Lists.{all?}
use Rattle.definitions.specs.Cases.{right}
use Rattle.definitions.specs.NumberCases.{agrees}
use Rattle.definitions.specs.ByteTestCases.{byte_test_texts, byte_test_cases}
use Rattle.definitions.specs.Computing.{computing}

pub byte_test_texts_lem : all? agrees byte_test_texts ≡ true
unfolding computing
byte_test_texts_lem = refl

pub byte_test_cases_lem : all? right byte_test_cases ≡ true
unfolding computing
byte_test_cases_lem = refl
