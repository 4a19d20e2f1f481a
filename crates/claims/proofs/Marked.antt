-- The marked values hold, each by computing.
-- Assumes nothing.
use mathlib.Core.Path.{refl}
use Rattle.bits.specs.Bits.{bit, number}
use Rattle.permutation.specs.Permutation.{μ, rotl}
use Rattle.state_bytes.specs.StateBytes.{column, state_of}
use Rattle.icepole.specs.Answers.{seal_number, open_number}
use Rattle.burst.specs.Editions.{numbered, written}
use Rattle.burst.specs.Parts.{nonce_of}
use Rattle.burst.specs.Layout.{header_rest, header_bytes, entry_bytes}
use Rattle.burst.specs.Numbers.{begin_number, keep_number, drop_number, close_number}
use Rattle.trace.specs.Plain.{total_of, header_of, index_of, number_of, accepted, value_of, after_call, answer_of, begun, plain_of, plain_answers}
use Rattle.bytes_le.specs.Bytes.{le_at}
use Rattle.burst.specs.Index.{entry_rules, index_rules}
use Rattle.reader.specs.Front.{entries_at, rest_rules, front_rules_of, front_rules}
use Rattle.reader.specs.Reader.{check_refusal, record_refusal, fetch_refusal}
use Rattle.strips.specs.Answers.{start_number, strip_number, end_number}
use Rattle.plain_text.specs.Text.{decimal}
use Rattle.listing.specs.Listing.{front_lines, head_lines, listing, shot_line, shot_lines}
use Rattle.claims.specs.Marked.{MarkedHold}

pub marked-hold : MarkedHold
unfolding numbered written header_rest rest_rules front_rules_of bit number μ rotl state_of column seal_number open_number header_bytes nonce_of entry_bytes
    begin_number keep_number drop_number close_number total_of header_of index_of number_of accepted value_of after_call answer_of begun plain_of plain_answers
    le_at entry_rules index_rules entries_at front_rules check_refusal record_refusal fetch_refusal start_number strip_number end_number decimal front_lines
    head_lines listing shot_line shot_lines
marked-hold = refl
