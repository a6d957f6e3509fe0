-- What the examples compute with: every definition of documents 01 and 02, opened at once. A proof by computation says `unfolding computing`.
use lib.Ieee.{add, sub, mul, div, lt, le, eq, neg, round, of_bits, to_bits}
use Rattle.exact.specs.Chains.{any, out_within}
use Rattle.definitions.specs.Numbers.{finite, is_zero, add_in_range, mul_in_range, div_in_range, add_product_in_range, sum, sum_in_range, all, units}
use Rattle.definitions.specs.Tables.{list, rows, stored, stored_table}
use Rattle.definitions.specs.LeavingRates.{pivot, multiplier, eliminate, begun, downward, p, u, m↓, m↑, b↓, b↑, solved, quotient, row_in_range, stage_in_range, shared_before, shared, column_before, column_upward, column, in_range, pivot_in_range}
use Rattle.definitions.specs.Compact.{stages_with, rank, compact}
use Rattle.definitions.specs.Margins.{sum_with, sum_with_in_range, h_of, k_before, h, a, kept, scaled, kept_system, y, known, joined, x_after, ratio_in_range, scaled_in_range, back_in_range, join_in_range, every_step, entry, margins_in_range}
use Rattle.definitions.specs.Sheet.{sheet_rows, sheet_numbers, size, diagonal, weight, weights, system, idle, takes_part, allowance}
use Rattle.definitions.specs.Table.{live_count, live_system, live_begun, live_entry, entry as entry·Table, every_step_in_range}
use Rattle.definitions.specs.Questions.{ask_row, ask_rows, ask_stages, known_reading, question1, question2, exponent_in_range, question12, question3, size_questions, shape_questions, question4, question5, question6, right_sign, question7, large_enough, question8, moves, leaves, gets_out, not_trapped, question9, question10, place_questions, number_questions, table_input, table_questions, entry_input, entry_questions, Accepted}
use Rattle.definitions.specs.Services.{table_answer, table, table_area, entry_answer}
use Rattle.definitions.specs.Fractions.{numerator, value, total}
use Rattle.definitions.specs.Accuracy.{extended, exact_price}
use Rattle.definitions.specs.Matrix.{row_sum, h_from, ratio_before, margin_sum, weighted_sum, exact_size, exact_diagonal, exact_weight, matrix, Inverse}
use Rattle.definitions.specs.File.{little, record_length, record_kind, payload, rest, whole_record, head_length, old_head_length, head_reading, head_stages, signed, head_unit, known_head, good_head, good_row, good_weights, good_record, record_questions, file_questions, number_bytes, words, record_words, file_words, head_of, file_answer, file_word_area, file_numbers, file_number_area, file_length, longest_file}
use Rattle.definitions.specs.Saving.{little_bytes, record_bytes, complement, head_bytes, word_bytes, row_bytes, weight_bytes, bytes_due, records_bytes, sheet_file, save_questions, save_answer, saved_words, sheet_words, saved_numbers}
use Rattle.definitions.specs.Moving.{times_power, question15, question17, has_room, rates_have_room, question16, move_input, move_questions, move_answer, moved_sheet, moved_area}
use Rattle.definitions.specs.Prices.{unit_price, question18, good_price, question19, price_shape, price_input, request_price, price_in_range, prices_in_range, price_questions, price_allowance, price_answer, request_prices, price_area}
use Rattle.definitions.specs.Column.{column_reading, column_shape, column_input, column_of, column_in_range, column_questions, stage_column, column_answer, column_area}
use Rattle.definitions.specs.Dwell.{text, digits, decimal, integer, hexadecimal, refused_line, seconds_line, entry_line, row_lines, table_lines, table_text, file_text, dwell_text}
use Rattle.definitions.specs.Starred.{outcome, Claim, starred, further, sheet_w}
use Rattle.definitions.specs.PivotExamples.{first_pivot, PivotClaim, pivots}
use Rattle.definitions.specs.ExactExamples.{sheet_h, sheet_d, MatrixOfH, MatrixOfW, Product, ExactTable, ExactTables, RuleOfD, ReadingOneAlone, ExactPrices}
use Rattle.definitions.specs.FileExamples.{DwellPrintsP, DwellPrintsOne, LongestFile, FileClaim, files, SaveClaim, saves}
use Rattle.definitions.specs.Calls.{outcome as outcome·Call, Claim as Claim-as-Call}
use Rattle.definitions.specs.ColumnExamples.{ColumnClaim, columns}
use Rattle.definitions.specs.PriceExamples.{PriceClaim, price_lines}
use Rattle.definitions.specs.MovingExamples.{MoveClaim, move_lines}

unfoldable pub computing : Unit {0}
unfolding add sub mul div lt le eq neg round of_bits to_bits any out_within finite is_zero add_in_range mul_in_range div_in_range add_product_in_range sum sum_in_range all units list rows stored stored_table pivot pivot_in_range multiplier eliminate begun downward p u m↓ m↑ b↓ b↑ solved quotient row_in_range stage_in_range shared_before shared column_before column_upward column in_range stages_with rank compact sum_with sum_with_in_range h_of k_before h a kept scaled kept_system y known joined x_after ratio_in_range scaled_in_range back_in_range join_in_range every_step entry margins_in_range sheet_rows sheet_numbers size diagonal weight weights system idle takes_part allowance live_count live_system live_begun live_entry entry·Table every_step_in_range ask_row ask_rows ask_stages known_reading question1 question2 exponent_in_range question12 question3 size_questions shape_questions question4 question5 question6 right_sign question7 large_enough question8 moves leaves gets_out not_trapped question9 question10 place_questions number_questions table_input table_questions entry_input entry_questions Accepted table_answer table table_area entry_answer numerator value total row_sum h_from ratio_before margin_sum weighted_sum exact_size exact_diagonal exact_weight matrix Inverse little record_length record_kind payload rest whole_record head_length old_head_length head_reading head_stages signed head_unit known_head good_head good_row good_weights good_record record_questions file_questions number_bytes words record_words file_words head_of file_answer file_word_area file_numbers file_number_area file_length longest_file little_bytes record_bytes complement head_bytes word_bytes row_bytes weight_bytes bytes_due records_bytes sheet_file save_questions save_answer saved_words sheet_words saved_numbers text digits decimal integer hexadecimal refused_line seconds_line entry_line row_lines table_lines table_text file_text dwell_text outcome Claim starred further sheet_w first_pivot PivotClaim pivots extended exact_price sheet_h sheet_d MatrixOfH MatrixOfW Product ExactTable ExactTables RuleOfD ReadingOneAlone ExactPrices DwellPrintsP DwellPrintsOne LongestFile FileClaim files SaveClaim saves column_reading column_shape column_input column_of column_in_range column_questions stage_column column_answer column_area outcome·Call Claim-as-Call ColumnClaim columns unit_price question18 good_price question19 price_shape price_input request_price price_in_range prices_in_range price_questions price_allowance price_answer request_prices price_area PriceClaim price_lines times_power question15 question17 has_room rates_have_room question16 move_input move_questions move_answer moved_sheet moved_area MoveClaim move_lines
computing = tt
