-- A BLOCK OF RECORDS IS READ BACK: a good line's record is as long as its head says and says what the line says (`good_length`, `good_record`), so the
-- records of some lines are those that the good ones make, in their order (`records_read`). No line adds more than 8,222 bytes (`line_most`).
use mathlib.Core.Path.{◌≡◌, sym, ap, ◌∙◌}
use mathlib.Core.Bool.{true}
use mathlib.Core.List.{List, [], ◌∷◌, ◌++◌, map, append_assoc}
use Prim.Native.Nat.{ℕ, zero, suc, ◌+◌, ◌≤◌}
use native.Mathlib.Omega.{arith}
use lib.ListN.{length, drop, length-append}
use lib.Seq.{take-append_seam, drop-append_seam, drop-drop}
use Rattle.forms.proofs.Bools.{by_cases}
use Rattle.definitions.specs.Lists.{keep, count}
use Rattle.definitions.specs.Parts.{part}
use Rattle.definitions.specs.Blocks.{PacketRecord, packet_length, decoded_length, record_length, record_of, records_up_to}
use Rattle.guard_packets.proofs.Records.{record_head_lem, record_suc, record_none}
use Rattle.line_fields.specs.FieldMaps.{max_span}
use Rattle.replay_laws.specs.Traces.{is_trace_line, trace_record}
use Rattle.replay_records.specs.RecordBytes.{record_bytes, line_bytes, lines_bytes, max_record}
use Rattle.replay_records.proofs.MapNumbers.{MapSmall, map_small}
use Rattle.replay_records.proofs.PairCounts.{columns_pairs}
use Rattle.replay_records.proofs.ReadHeads.{head_onto, head_onto_lem, from_back, packet_back, decoded_back, fields_back}
use Rattle.replay_records.proofs.Lines.{bad_bytes, good_bytes, good_short, good_map}

-- ---- a record whose numbers are below 65536

pub record RecordSmall (k : PacketRecord) : Type 0 where
  pub packet : length k.packet ≤ max_span
  pub decoded : length k.decoded ≤ max_span
  pub fields : MapSmall k.fields

record_length_lem : (k : PacketRecord) → length (record_bytes k) ≡ 30 + (length k.packet + length k.decoded)
unfolding record_bytes
record_length_lem k =
    ap length (head_onto_lem k.direction k.fields (length k.packet) (length k.decoded) (k.packet ++ k.decoded))
    ∙ omega (arith, length-append k.packet k.decoded)

module _ (k : PacketRecord) (s : RecordSmall k) (rest : List ℕ) where
  abbrev tail : List ℕ
  tail = k.packet ++ (k.decoded ++ rest)

  abbrev whole : List ℕ
  whole = head_onto k.direction k.fields (length k.packet) (length k.decoded) tail

  is_whole : record_bytes k ++ rest ≡ whole
  unfolding record_bytes
  is_whole = simp append_assoc (head_onto_lem k.direction k.fields (length k.packet) (length k.decoded) tail)

  packet_is : packet_length whole ≡ length k.packet
  packet_is = packet_back k.direction k.fields (length k.packet) (length k.decoded) tail s.packet

  decoded_is : decoded_length whole ≡ length k.decoded
  decoded_is = decoded_back k.direction k.fields (length k.packet) (length k.decoded) tail s.decoded

  pub length_back : record_length (record_bytes k ++ rest) ≡ length (record_bytes k)
  unfolding record_length
  length_back = rw is_whole (omega (arith, packet_is, decoded_is, record_length_lem k))

  pub record_back : record_of (record_bytes k ++ rest) ≡ k
  unfolding record_of
  record_back =
      let from = from_back k.direction k.fields (length k.packet) (length k.decoded) tail in
      let fields = fields_back k.direction k.fields (length k.packet) (length k.decoded) tail s.fields in
      let after : drop (30 + length k.packet) whole ≡ k.decoded ++ rest =
      sym (drop-drop (length k.packet) 30 whole) ∙ drop-append_seam k.packet (k.decoded ++ rest) in
      rw (
        is_whole,
        packet_is,
        decoded_is,
        from,
        fields,
        after,
        take-append_seam k.packet (k.decoded ++ rest),
        take-append_seam k.decoded rest,
      )

-- ---- a line's

trace_small : (l : List ℕ) → is_trace_line l ≡ true → RecordSmall (trace_record l)
unfolding trace_record
trace_small l t =
    record {
      packet = omega (arith, good_short l t, columns_pairs l);
      decoded = omega (arith, good_short l t, columns_pairs l);
      fields = map_small (part 9 2 l) (good_map l t);
    }

pub line_most : (l : List ℕ) → length (line_bytes l) ≤ max_record
unfolding trace_record
line_most l =
    by_cases (is_trace_line l)
    (λ t. rw (good_bytes l t) (omega (arith, record_length_lem (trace_record l), good_short l t, columns_pairs l)))
    (λ f. rw (bad_bytes l f) (omega arith))

module _ (l : List ℕ) (t : is_trace_line l ≡ true) (rest : List ℕ) where
  pub good_length : record_length (line_bytes l ++ rest) ≡ length (line_bytes l)
  good_length = rw (good_bytes l t) (length_back (trace_record l) (trace_small l t) rest)

  pub good_record : record_of (line_bytes l ++ rest) ≡ trace_record l
  good_record = rw (good_bytes l t) (record_back (trace_record l) (trace_small l t) rest)

-- ---- those of some lines

good_read : (n : ℕ) (l : List ℕ) → is_trace_line l ≡ true → (rest : List ℕ) → records_up_to (suc n) (line_bytes l ++ rest) ≡ trace_record l ∷ records_up_to n rest
good_read n l t rest =
    let bytes = line_bytes l in
    let within : record_length (bytes ++ rest) ≤ length (bytes ++ rest) = omega (arith, good_length l t rest, length-append bytes rest) in
    record_suc n (bytes ++ rest) within ∙ rw (good_record l t rest, good_length l t rest, drop-append_seam bytes rest)

pub records_read : (n : ℕ) (ls : List (List ℕ)) → count is_trace_line ls ≤ n → records_up_to n (lines_bytes ls) ≡ map trace_record (keep is_trace_line ls)
unfolding lines_bytes keep
records_read n [] h = record_none n [] (omega (arith, record_head_lem []))
records_read zero (l ∷ ls) h =
    by_cases (is_trace_line l)
    (λ t. absurd (let some : suc (count is_trace_line ls) ≤ 0 = rw t at h in let z : ⊥ = omega arith in z))
    (λ f. rw (f, bad_bytes l f) (records_read zero ls (rw f at h)))
records_read (suc n) (l ∷ ls) h =
    by_cases (is_trace_line l)
    (λ t.
    let some : suc (count is_trace_line ls) ≤ suc n = rw t at h in
    rw (t, good_read n l t (lines_bytes ls), records_read n ls (omega arith)))
    (λ f. rw (f, bad_bytes l f) (records_read (suc n) ls (rw f at h)))
