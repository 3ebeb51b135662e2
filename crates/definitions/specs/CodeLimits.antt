-- What each constant of the code (src/limits.rt) has to be: the limits of document 01 and what follows of them.
use Rattle.std.specs.Prelude.{pos, length}
use Rattle.definitions.specs.declared.limits.DocumentLimits.{DocumentLimits}
use Rattle.definitions.specs.Limits as limits
use Rattle.definitions.specs.Options.{option_table}

abbrev pub code_limits : DocumentLimits
code_limits = record {
  text = (limits.document_limits).text;
  canonical = (limits.document_limits).canonical;
  room = (limits.document_limits).room;
  name = limits.max_name;
  patterns = limits.max_patterns;
  tests = limits.max_tests;
  items = limits.max_items;
  addresses = limits.max_addresses;
  packet = limits.max_packet;
  decoded = limits.max_decoded;
  book = limits.max_book;
  rules = limits.max_rules;
  byte = limits.max_byte;
  word = limits.max_word;
  long = limits.max_long;
  -- a distance either way
  offset = pos limits.max_word;
  prefix = limits.max_prefix;
  -- the rows of the table of options
  options = length option_table;
}
