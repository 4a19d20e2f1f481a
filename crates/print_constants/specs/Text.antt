-- The text of the program (02, N8): "the starting words in word order, then the constants from 0, each as a line of 16 hex digits in capitals". A character is its
-- ASCII code.
-- Assumes nothing.
use Rattle.std.specs.Prelude.{cond, List, [], ◌∷◌, ◌++◌, map, ℕ, ◌+◌, ◌-◌, ◌*◌, ◌/◌, ◌%◌, ◌^◌, ltb, get_or}
use Rattle.permutation.specs.State.{State, tabulate}
use Rattle.state_bytes.specs.StateBytes.{word_of}
use Rattle.constants.specs.Tables.{starting_words, round_constants}

-- a digit below 16: 0 to 9, then A to F (48 is the code of 0, 65 that of A)
abbrev pub glyph : ℕ → ℕ
glyph d = cond (ltb d 10) (48 + d) (55 + d)

-- digit number k from the left of the 16 of w has the four bits from 60 - 4k on
abbrev pub hex_digit : ℕ → ℕ → ℕ
hex_digit w k = glyph (w / 2 ^ (60 - 4 * k) % 16)

-- w as its digits and the end of the line
abbrev pub hex_line : ℕ → List ℕ
hex_line w = tabulate 16 (hex_digit w) ++ (10 ∷ [])

-- the words of a state in word order (01, "The permutation")
abbrev pub words_in_order : State → List ℕ
words_in_order s = tabulate 20 (word_of s)

unfoldable pub text : List (List ℕ)
text = map hex_line (words_in_order starting_words ++ round_constants)

-- the number on line k, for the code: a word, then a constant
abbrev pub number_on : State → List ℕ → ℕ → ℕ
number_on s c k = cond (ltb k 20) (word_of s k) (get_or c (k - 20) 0)
