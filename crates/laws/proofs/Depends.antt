-- Besides the table, a verdict depends at most on the datagram, the present fields, direction, earlier placement, lent lengths and the map;
-- refusals 31 and 32 also on the packet's first four bytes (`verdict_depends`, `first_depends`, `next_depends`). A packet shorter than its total
-- length has no datagram, and is refused by lengths and the first four bytes; an absent field's part is empty whatever the buffers hold.
-- Section "Packet and fields".
use Rattle.std.specs.Prelude.{Option, Some, None, Result, Ok, Err}
use mathlib.Core.Path.{◌≡◌, refl, sym, ap, ◌∙◌, fun_ext}
use mathlib.Core.Bool.{Bool, true, false, not, ◌||◌, true≢false}
use mathlib.Core.List.{List, [], ◌∷◌}
use Prim.Native.Nat.{ℕ, ◌+◌, ◌*◌, ◌/◌, ◌%◌, ◌≤◌}
use lib.ListN.{length, take, get_or}
use lib.Dec.{eqb, ltb}
use borrow.Author.Tests.{ltb-false}
use Rattle.definitions.specs.declared.packets.Start.{Start}
use Rattle.definitions.specs.declared.packets.Direction.{Direction}
use Rattle.definitions.specs.declared.table.Context.{Context}
use Rattle.definitions.specs.declared.table.Context.TheVariants as context
use Rattle.definitions.specs.declared.table.Table.{Table}
use Rattle.definitions.specs.declared.packets.FieldMap.{FieldMap}
use Rattle.definitions.specs.declared.packets.Placement.{Placement}
use Rattle.definitions.specs.declared.answers.Refusal.TheVariants as refusal
use Rattle.definitions.specs.declared.answers.Answer.{Answer}
use Rattle.definitions.specs.declared.answers.Refusal.{Refusal}
use Rattle.definitions.specs.declared.packets.Span.{Span}
use Rattle.definitions.specs.Limits.{max_packet, max_decoded}
use Rattle.definitions.specs.Lists.{any?, keep}
use Rattle.definitions.specs.Refusals.{refuse_if, and_then}
use Rattle.definitions.specs.WellFormed.{well_formed}
use Rattle.definitions.specs.Packet.{big_endian, total_length, datagram_of, header_of, payload_of, datagram_check, packet_check}
use Rattle.definitions.specs.Fields.{View, view_of, buffer_of, span_of, is_at, passes, shown, cut, field_of, present, fields_check}
use Rattle.definitions.specs.Placements.{listed, lex_less}
use Rattle.definitions.specs.Answers.{starts_of, head_of, unless, verdict_by, input_check, placements_of, verdict_answer, first_answer, earlier_check, next_answer}
use Rattle.laws.proofs.Checks.{refuse_same, refuse_fine, else_same, else_fine, neither}

-- two packets and two decoded buffers that a verdict cannot tell apart
pub record Alike (p p' decoded decoded' : List ℕ) (m : FieldMap) : Type 0 where
  pub buffer : length p ≡ length p'
  pub buffer_decoded : length decoded ≡ length decoded'
  pub front : take 4 p ≡ take 4 p'
  pub datagrams : total_length p ≤ length p → datagram_of p ≡ datagram_of p'
  pub fields : total_length p ≤ length p → (c : Context) → present m c ≡ true
      → field_of (payload_of (datagram_of p)) decoded m c ≡ field_of (payload_of (datagram_of p)) decoded' m c

-- the first four bytes
byte0 : (p : List ℕ) → get_or p 0 0 ≡ get_or (take 4 p) 0 0
byte0 [] = refl
byte0 (a ∷ p) = refl

byte2 : (p : List ℕ) → get_or p 2 0 ≡ get_or (take 4 p) 2 0
byte2 [] = refl
byte2 (a ∷ []) = refl
byte2 (a ∷ (b ∷ [])) = refl
byte2 (a ∷ (b ∷ (c ∷ p))) = refl

byte3 : (p : List ℕ) → get_or p 3 0 ≡ get_or (take 4 p) 3 0
byte3 [] = refl
byte3 (a ∷ []) = refl
byte3 (a ∷ (b ∷ [])) = refl
byte3 (a ∷ (b ∷ (c ∷ []))) = refl
byte3 (a ∷ (b ∷ (c ∷ (e ∷ p)))) = refl

-- a span passes a buffer by the buffer's length
passes_same : (sp : Option Span) (b b' : List ℕ) → length b ≡ length b' → passes sp b ≡ passes sp b'
passes_same None b b' e = refl
passes_same (Some sp) b b' e = ap (λ (n : ℕ). ltb n (sp.start + sp.len)) e

buffer_same : (payload decoded decoded' : List ℕ) → length decoded ≡ length decoded' → (c : Context)
    → length (buffer_of payload decoded c) ≡ length (buffer_of payload decoded' c)
buffer_same payload decoded decoded' e context.Packet = refl
buffer_same payload decoded decoded' e context.Uri = e
buffer_same payload decoded decoded' e context.Header = e
buffer_same payload decoded decoded' e context.Body = refl
buffer_same payload decoded decoded' e context.Banner = refl
buffer_same payload decoded decoded' e context.Host = e
buffer_same payload decoded decoded' e context.File = refl

-- an absent field's part is empty
cut_same : (sp : Option Span) (b b' : List ℕ) → is_at sp ≡ false → cut (shown sp b) b ≡ cut (shown sp b') b'
cut_same None b b' e = refl
cut_same (Some sp) b b' e = absurd (true≢false e)

absent_same : (payload decoded decoded' : List ℕ) (m : FieldMap) (c : Context) → present m c ≡ false
    → field_of payload decoded m c ≡ field_of payload decoded' m c
unfolding field_of present
absent_same payload decoded decoded' m context.Packet e = refl
absent_same payload decoded decoded' m context.Uri e = cut_same m.uri decoded decoded' e
absent_same payload decoded decoded' m context.Header e = cut_same m.header decoded decoded' e
absent_same payload decoded decoded' m context.Body e = refl
absent_same payload decoded decoded' m context.Banner e = refl
absent_same payload decoded decoded' m context.Host e = cut_same m.host decoded decoded' e
absent_same payload decoded decoded' m context.File e = refl

-- 30 to 32 by the lent lengths, the first byte and the total length, then what is due of the datagram
abbrev too_long : ℕ → ℕ → Bool
too_long n k = ltb max_packet n || ltb max_decoded k

abbrev other_version : ℕ → ℕ → Bool
other_version n b = ltb n 20 || not (eqb (b / 16) 4)

abbrev wrong_lengths : ℕ → ℕ → ℕ → Bool
wrong_lengths n b total = ltb (b % 16) 5 || (ltb total (b % 16 * 4) || ltb n total)

unfoldable check_by : ℕ → ℕ → ℕ → ℕ → Result Unit Refusal → Result Unit Refusal
check_by n k b total d =
    refuse_if (too_long n k) refusal.BufferLength (refuse_if (other_version n b) refusal.NotIpv4 (refuse_if (wrong_lengths n b total) refusal.Lengths d))

lengths_within : (n b total : ℕ) → wrong_lengths n b total ≡ false → total ≤ n
lengths_within n b total e =
    ltb-false n total (neither (ltb total (b % 16 * 4)) (ltb n total) (neither (ltb (b % 16) 5) (ltb total (b % 16 * 4) || ltb n total) e).1).1

-- the datagram is looked at only where it lies in the lent bytes
check_by_same : (n k b total : ℕ) (d d' : Result Unit Refusal) → (total ≤ n → d ≡ d') → check_by n k b total d ≡ check_by n k b total d'
unfolding check_by
check_by_same n k b total d d' f =
    ap (λ (u : Result Unit Refusal). refuse_if (too_long n k) refusal.BufferLength (refuse_if (other_version n b) refusal.NotIpv4 u))
    (refuse_same (wrong_lengths n b total) refusal.Lengths d d' (λ e. f (lengths_within n b total e)))

check_by_within : (n k b total : ℕ) (d : Result Unit Refusal) → check_by n k b total d ≡ Ok tt → total ≤ n
unfolding check_by
check_by_within n k b total d e =
    let lengths : Result Unit Refusal = refuse_if (wrong_lengths n b total) refusal.Lengths d in
    let x = (refuse_fine (too_long n k) refusal.BufferLength (refuse_if (other_version n b) refusal.NotIpv4 lengths) e).1 in
    let y = (refuse_fine (other_version n b) refusal.NotIpv4 lengths x).1 in
    lengths_within n b total (refuse_fine (wrong_lengths n b total) refusal.Lengths d y).0

check_by_lem : (p decoded : List ℕ) → packet_check p decoded ≡ check_by (length p) (length decoded) (big_endian 1 p 0) (total_length p) (datagram_check (datagram_of p))
unfolding packet_check check_by
check_by_lem p decoded = refl

verdict_by_same : (d : Result Unit Refusal) (l l' : List (List Start)) → (d ≡ Ok tt → l ≡ l') → verdict_by d l ≡ verdict_by d l'
verdict_by_same (Ok tt) l l' f = ap (verdict_by (Ok tt)) (f refl)
verdict_by_same (Err r) l l' f = refl

unless_same : (d : Result Unit Refusal) (a a' : Answer) → (d ≡ Ok tt → a ≡ a') → unless d a ≡ unless d a'
unless_same (Ok tt) a a' f = f refl
unless_same (Err r) a a' f = refl

module _ (p p' decoded decoded' : List ℕ) (m : FieldMap) (h : Alike p p' decoded decoded' m) where
  first_same : big_endian 1 p 0 ≡ big_endian 1 p' 0
  unfolding big_endian
  first_same = ap (λ (b : ℕ). 0 * 256 + b) (byte0 p ∙ ap (λ (l : List ℕ). get_or l 0 0) h.front ∙ sym (byte0 p'))

  total_same : total_length p ≡ total_length p'
  unfolding big_endian
  total_same =
      let b : get_or p 2 0 ≡ get_or p' 2 0 = byte2 p ∙ ap (λ (l : List ℕ). get_or l 2 0) h.front ∙ sym (byte2 p') in
      let c : get_or p 3 0 ≡ get_or p' 3 0 = byte3 p ∙ ap (λ (l : List ℕ). get_or l 3 0) h.front ∙ sym (byte3 p') in
      rw (b, c)

  front_same : (d : Result Unit Refusal)
      → check_by (length p) (length decoded) (big_endian 1 p 0) (total_length p) d ≡ check_by (length p') (length decoded') (big_endian 1 p' 0) (total_length p') d
  front_same d = rw (h.buffer, h.buffer_decoded, first_same, total_same)

  packet_check_same : packet_check p decoded ≡ packet_check p' decoded'
  packet_check_same =
      check_by_lem p decoded
      ∙ check_by_same (length p) (length decoded) (big_endian 1 p 0) (total_length p) (datagram_check (datagram_of p)) (datagram_check (datagram_of p'))
      (λ w. ap datagram_check (h.datagrams w))
      ∙ front_same (datagram_check (datagram_of p'))
      ∙ sym (check_by_lem p' decoded')

  packet_within : packet_check p decoded ≡ Ok tt → total_length p ≤ length p
  packet_within e = check_by_within (length p) (length decoded) (big_endian 1 p 0) (total_length p) (datagram_check (datagram_of p)) (sym (check_by_lem p decoded) ∙ e)

  one_passes : (payload : List ℕ) (c : Context)
      → passes (span_of payload m c) (buffer_of payload decoded c) ≡ passes (span_of payload m c) (buffer_of payload decoded' c)
  one_passes payload c =
      passes_same (span_of payload m c) (buffer_of payload decoded c) (buffer_of payload decoded' c) (buffer_same payload decoded decoded' h.buffer_decoded c)

  fields_check_same : (payload : List ℕ) → fields_check payload decoded m ≡ fields_check payload decoded' m
  unfolding fields_check any?
  fields_check_same payload =
      rw (one_passes payload context.Uri, one_passes payload context.Header, one_passes payload context.Host)

  module _ (w : total_length p ≤ length p) where
    field_same : (c : Context) → field_of (payload_of (datagram_of p)) decoded m c ≡ field_of (payload_of (datagram_of p)) decoded' m c
    field_same c = go (present m c) refl
      where
        go : (t : Bool) → present m c ≡ t → field_of (payload_of (datagram_of p)) decoded m c ≡ field_of (payload_of (datagram_of p)) decoded' m c
        go true e = h.fields w c e
        go false e = absent_same (payload_of (datagram_of p)) decoded decoded' m c e

    view_same : view_of p decoded m ≡ view_of p' decoded' m
    view_same =
        ap (λ (f : Context → List ℕ). record { header = header_of (datagram_of p); present = present m; field = f }) (fun_ext field_same)
        ∙ ap (λ (d : List ℕ). record { header = header_of d; present = present m; field = field_of (payload_of d) decoded' m }) (h.datagrams w)

  module _ (t : Table) (dir : Direction) where
    check_same : input_check t p decoded dir m ≡ input_check t p' decoded' dir m
    unfolding input_check
    check_same =
        ap (refuse_if (not (well_formed t)) refusal.IllFormed)
        (else_same (packet_check p decoded) (fields_check (payload_of (datagram_of p)) decoded m) (fields_check (payload_of (datagram_of p')) decoded' m)
        (λ e. fields_check_same (payload_of (datagram_of p)) ∙ ap (λ (d : List ℕ). fields_check (payload_of d) decoded' m) (h.datagrams (packet_within e)))
        ∙ ap (λ (d : Result Unit Refusal). and_then d (fields_check (payload_of (datagram_of p')) decoded' m)) packet_check_same)

    list_same : input_check t p decoded dir m ≡ Ok tt → placements_of t p decoded dir m ≡ placements_of t p' decoded' dir m
    unfolding placements_of input_check
    list_same e =
        let f = (refuse_fine (not (well_formed t)) refusal.IllFormed _ e).1 in
        ap (λ (v : View). listed t v dir) (view_same (packet_within (else_fine (packet_check p decoded) _ f).0))

    pub verdict_depends : verdict_answer t p decoded dir m ≡ verdict_answer t p' decoded' dir m
    unfolding verdict_answer
    verdict_depends =
        verdict_by_same (input_check t p decoded dir m) (placements_of t p decoded dir m) (placements_of t p' decoded' dir m) list_same
        ∙ ap (λ (d : Result Unit Refusal). verdict_by d (placements_of t p' decoded' dir m)) check_same

    pub first_depends : first_answer t p decoded dir m ≡ first_answer t p' decoded' dir m
    unfolding first_answer
    first_depends =
        unless_same (input_check t p decoded dir m) (head_of (placements_of t p decoded dir m)) (head_of (placements_of t p' decoded' dir m))
        (λ e. ap head_of (list_same e))
        ∙ ap (λ (d : Result Unit Refusal). unless d (head_of (placements_of t p' decoded' dir m))) check_same

    pub next_depends : (held : Placement) → next_answer t p decoded dir m held ≡ next_answer t p' decoded' dir m held
    unfolding next_answer
    next_depends held =
        let least : List (List Start) → Answer = λ l. head_of (keep (lex_less (starts_of held)) l) in
        let check : Result Unit Refusal → Result Unit Refusal = λ d. and_then d (earlier_check t p decoded dir m held) in
        unless_same (check (input_check t p decoded dir m)) (least (placements_of t p decoded dir m)) (least (placements_of t p' decoded' dir m))
        (λ e. ap least (list_same (else_fine (input_check t p decoded dir m) _ e).0))
        ∙ ap (λ (d : Result Unit Refusal). unless (check d) (least (placements_of t p' decoded' dir m))) check_same
