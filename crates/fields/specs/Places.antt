-- Which of the two lent buffers is a field's, as the definitions' `buffer_of` says. Section "Packet and fields".
use Rattle.std.specs.Prelude.{ℕ, List, [], ◌∷◌, if◌then◌else◌}
use Rattle.definitions.specs.declared.table.Context.{Context}
use Rattle.definitions.specs.declared.packets.FieldMap.{FieldMap}
use Rattle.definitions.specs.Lists.{none?}
use Rattle.definitions.specs.Fields.{buffer_of, span_of}
use Rattle.fields.specs.declared.places.Buffer.{Buffer}
use Rattle.fields.specs.declared.places.Buffer.TheVariants.{Payload, Decoded}
use Rattle.fields.specs.declared.places.Place.{Place}

-- the name of the buffer: `buffer_of` is asked which of two unlike lists it takes
abbrev pub buffer_named : Context → Buffer
buffer_named c = if none? (buffer_of [] (0 ∷ []) c) then Payload else Decoded

-- one of two, one for each buffer
abbrev pub chosen : {A : Type 0} → A → A → Buffer → A
chosen payload decoded Payload = payload
chosen payload decoded Decoded = decoded

-- the buffer of a context: `buffer_of`, of whatever stands for the two buffers, as the references that a caller lends
abbrev pub own_buffer : {A : Type 0} → A → A → Context → A
own_buffer payload decoded c = chosen payload decoded (buffer_named c)

abbrev pub field_place : List ℕ → FieldMap → Context → Place
field_place payload m c = record { buffer = buffer_named c; span = span_of payload m c }
