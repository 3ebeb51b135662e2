-- What pages of docs/ name and no proof needs any more: a within fits by the type of its number, an item that is no address test is of one of three kinds, and which
-- bytes begin a keyword, whatever it stands for.
use mathlib.Core.Path.{◌≡◌, refl}
use mathlib.Core.Bool.{true}
use mathlib.Core.List.{List, [], ◌∷◌}
use Prim.Native.Nat.{ℕ, ◌≤◌}
use types.Run.{OneOf, miss}
use denote.Enum.Declared.{tag_of}
use borrow.Author.Tests.{le-leb}
use Rattle.std.specs.Prelude.{Option, Some, None, IfSome}
use Rattle.forms.specs.Scan.{first_set}
use Rattle.forms.specs.Pieces.{keyword}
use Rattle.definitions.specs.declared.table.Pattern.{Pattern}
use Rattle.definitions.specs.declared.table.WithinValue.{WithinValue}
use Rattle.definitions.specs.declared.table.Item.{Item}
use Rattle.definitions.specs.declared.table.Item.TheVariants as item
use Rattle.definitions.specs.Limits.{max_word}
use Rattle.definitions.specs.Items.{Kind, unused, patterned, plain_test, kind_of}
use Rattle.definitions.specs.WellFormed.{within_fits}
use Rattle.definitions.specs.contracts.table.Item as item-type

pub within_fits_lem : (w : Option WithinValue) → IfSome w (λ v. v.number ≤ max_word) → within_fits w ≡ true
within_fits_lem None k = refl
within_fits_lem (Some r) k = le-leb r.number max_word k

pub no_address_lem : (P : Kind → Type 0) → P unused → ((q : Pattern) → P (patterned q)) → P plain_test → (it : Item)
    → OneOf (0 ∷ 2 ∷ 3 ∷ 4 ∷ 5 ∷ 6 ∷ 7 ∷ 8 ∷ 9 ∷ []) (tag_of item-type.the_type it) → P (kind_of it)
no_address_lem P u q p item.Unused k = u
no_address_lem P u q p (item.Address t) k = absurd (miss (0 ∷ 2 ∷ 3 ∷ 4 ∷ 5 ∷ 6 ∷ 7 ∷ 8 ∷ 9 ∷ []) 1 tt k)
no_address_lem P u q p item.SameIp k = p
no_address_lem P u q p (item.Number t) k = p
no_address_lem P u q p (item.Ttl t) k = p
no_address_lem P u q p (item.Field t) k = p
no_address_lem P u q p (item.Size t) k = p
no_address_lem P u q p (item.At t) k = p
no_address_lem P u q p (item.Byte t) k = p
no_address_lem P u q p (item.Pattern t) k = q t

pub first_set-keyword : {A : Type 0} (w : List ℕ) (a : A) → first_set (keyword w a) ≡ first_set (keyword w true)
first_set-keyword [] a = refl
first_set-keyword (y ∷ w) a = refl
