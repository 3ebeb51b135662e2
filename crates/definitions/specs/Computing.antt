-- One name that unfolds every definition, for statements by computation. Made by tools/computing.
use Prim.Native.Nat.{ℕ}
use Rattle.forms.specs.Bytes.{lower, same_word, run}
use Rattle.forms.specs.Form.{has, Means}
use Rattle.forms.specs.Scan.{loop, scan, overs, over}
use Rattle.forms.specs.Place.{read_at}
use Rattle.forms.specs.Bounds.{bounds}
use Rattle.definitions.specs.Lists.{all?, any?, keep, same_bytes}
use Rattle.definitions.specs.Numbers.{digit_value, value_of, is_number}
use Rattle.definitions.specs.Parts.{find, contains, part_before, part_after, parts, after_parts}
use Rattle.definitions.specs.Options.{option_table, in_name, named_option, option_at, printable}
use Rattle.definitions.specs.Tables.{name_in, protocol_in, flow_in, modified, slots_in, bytes_in, table_of}
use Rattle.definitions.specs.Items.{patterns_of}
use Rattle.definitions.specs.Starts.{start_before, same_start}
use Rattle.definitions.specs.References.{usable, usable_run}
use Rattle.definitions.specs.Occurrences.{latest, occurrence_check, missing}
use Rattle.definitions.specs.Reading.{options, checked_table, unbounded_placing, read_placing}
use Rattle.definitions.specs.IpId.{holds_ip_id, renewed}
use Rattle.definitions.specs.WellFormed.{name_fits, item_fits, items_fit, bytes_of, bytes_fit, well_formed}
use Rattle.definitions.specs.Canonical.{slot_options, canonical_options, digits_of, addresses_text, field_text, comparison_text, byte_text, pattern_text, test_text, modifier_text, option_text, options_text, canonical_text}
use Rattle.definitions.specs.Writing.{writing_check, writes, buffer_after}
use Rattle.definitions.specs.Packet.{big_endian, header_of, packet_check, packet_answer}
use Rattle.definitions.specs.Fields.{field_of, present, fields_check}
use Rattle.definitions.specs.Tests.{in_addresses, address_holds, number_holds, field_holds, number_at, bytes_hold, size_holds, at_holds, byte_holds, test_holds}
use Rattle.definitions.specs.Windows.{in_window, alike, stands_at, lies}
use Rattle.definitions.specs.Placements.{lex_less, constraints, items_of, positives, up_from, spread, lies_in, starts, unmatched_holds, Meets, placements, MeetsTable, listed}
use Rattle.definitions.specs.Answers.{input_check, placements_of, verdict_answer, first_answer, next_answer}
use Rattle.definitions.specs.Books.{book_lines, is_rule_number, is_state, state_of, is_action, action_of, is_rule, rule_number, rule_source, rule_of, rules_of, line_check, judge_lines, judge}
use Rattle.definitions.specs.Decisions.{decides, decided, decision}
use Rattle.definitions.specs.LoadedBooks.{rule_at, rules_in, source_start, loaded_at, loaded_from, loaded}
use Rattle.definitions.specs.Blocks.{record_length, record_direction, record_field, record_fields, record_of, records_up_to, bytes_up_to, record_number, block_numbers, block_answered}
use Rattle.definitions.specs.Queries.{answers}
use Rattle.definitions.specs.Lines.{line_of, line_texts, lines_from, output_over, program_output}
use Rattle.definitions.specs.Cases.{pairs, same_lists, signature, packet_with, uri_only, numbers_of, right_by, right, found, none, on_payload, on_uri, on_text, cases, known_mistakes, data_at_cases}
use Rattle.definitions.specs.NumberCases.{agrees, shown_in, refusal_numbers, rule_with, ill_formed, long_rule, header, good, no_fields, long_uri, reads, reads_option, after_head, rewrites, writes_to, seen, judged, first_of, next_of, rule_line, rules_from, sixty_four, judges, decides_for, refused_with, number_cases}
use Rattle.definitions.specs.PlaceCases.{form_places, limit_places}
use Rattle.definitions.specs.IpIdCases.{before_pattern, rewrites_at_limit, old_kind, old_kind_after_pattern, ip_id_cases, old_kind_cases, ip_id_limits}
use Rattle.definitions.specs.ByteTestCases.{byte_test_texts, byte_test_cases}
use Rattle.definitions.specs.BookCases.{rule_x, line_x, book_texts, plant_book, plant_packet, udp_packet, book_decisions, record_for, plant_block, in_block, block_decisions}

unfoldable pub computing : ℕ
unfolding lower same_word run has Means loop scan overs over read_at bounds all? any? keep same_bytes digit_value value_of is_number find contains part_before part_after parts after_parts option_table in_name named_option option_at printable name_in protocol_in flow_in modified slots_in bytes_in table_of patterns_of start_before same_start usable usable_run latest occurrence_check missing options checked_table unbounded_placing read_placing holds_ip_id renewed name_fits item_fits items_fit bytes_of bytes_fit well_formed slot_options canonical_options digits_of addresses_text field_text comparison_text byte_text pattern_text test_text modifier_text option_text options_text canonical_text writing_check writes buffer_after big_endian header_of packet_check packet_answer field_of present fields_check in_addresses address_holds number_holds field_holds number_at bytes_hold size_holds at_holds byte_holds test_holds in_window alike stands_at lies lex_less constraints items_of positives up_from spread lies_in starts unmatched_holds Meets placements MeetsTable listed input_check placements_of verdict_answer first_answer next_answer book_lines is_rule_number is_state state_of is_action action_of is_rule rule_number rule_source rule_of rules_of line_check judge_lines judge decides decided decision rule_at rules_in source_start loaded_at loaded_from loaded record_length record_direction record_field record_fields record_of records_up_to bytes_up_to record_number block_numbers block_answered answers line_of line_texts lines_from output_over program_output pairs same_lists signature packet_with uri_only numbers_of right_by right found none on_payload on_uri on_text cases known_mistakes data_at_cases agrees shown_in refusal_numbers rule_with ill_formed long_rule header good no_fields long_uri reads reads_option after_head rewrites writes_to seen judged first_of next_of rule_line rules_from sixty_four judges decides_for refused_with number_cases form_places limit_places before_pattern rewrites_at_limit old_kind old_kind_after_pattern ip_id_cases old_kind_cases ip_id_limits byte_test_texts byte_test_cases rule_x line_x book_texts plant_book plant_packet udp_packet book_decisions record_for plant_block in_block block_decisions
computing = 0
