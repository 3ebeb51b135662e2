-- The limits of documents 01 and 02, each said once.
use Rattle.std.specs.Prelude.{ℕ}

-- Section "Text": bytes of a text, bytes of a canonical text, pattern bytes of a table. Reading and writing take them as a parameter.
pub record Limits : Type 0 where
  pub text : ℕ
  pub canonical : ℕ
  pub room : ℕ

-- document 02, T-11
abbrev pub document_limits : Limits
document_limits = record { text = 4096; canonical = 4096; room = 4096 }

-- document 01's, which T-11 raised: for what is stated of the two (limit_laws) alone
abbrev pub former_limits : Limits
former_limits = record { text = 1024; canonical = 1024; room = 1024 }

-- bytes of a name; patterns, tests and items of a table; addresses of a test
abbrev pub max_name : ℕ
max_name = 64

abbrev pub max_patterns : ℕ
max_patterns = 8

abbrev pub max_tests : ℕ
max_tests = 16

abbrev pub max_items : ℕ
max_items = 24

abbrev pub max_addresses : ℕ
max_addresses = 8

-- numbers of one byte, two bytes and four bytes; the bits of an address
abbrev pub max_byte : ℕ
max_byte = 255

abbrev pub max_word : ℕ
max_word = 65535

abbrev pub max_long : ℕ
max_long = 4294967295

abbrev pub max_prefix : ℕ
max_prefix = 32

-- Section "Numbers of refusal", 30: bytes of a lent packet and of a decoded buffer
abbrev pub max_packet : ℕ
max_packet = 2048

abbrev pub max_decoded : ℕ
max_decoded = 4096

-- Document 02, T-03: bytes and rules of a book
abbrev pub max_book : ℕ
max_book = 65536

abbrev pub max_rules : ℕ
max_rules = 64
