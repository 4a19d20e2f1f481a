-- `reader::front_ok` meets its contract: a rule that is broken refutes the test.
-- Assumes nothing.
use mathlib.Core.Bool.{true}
use mathlib.Core.Path.{◌≡◌, sym, ◌∙◌}
use native.Mathlib.Omega.{arith}
use Rattle.bytes_le.specs.Bytes.{Bytes}
use Rattle.burst.proofs.Rules.{refuted, clash}
use Rattle.reader.specs.Front.{front_rules}
use Rattle.reader.proofs.Rules.{Reads, front, reads, reads-is}
use Rattle.reader.proofs.front_ok.Goals as goal
use Rattle.reader.proofs.front_ok.Goals.{After-edition_in-e, Else-not-rest_ok}

-- the rules, where all of them hold
abbrev file : After-edition_in-e → Bytes
file c = c.args.f.now

abbrev Told : After-edition_in-e → Type 0
Told c = Reads (file c) c.edition_in-e.result c.header_in-h.result

told : (c : After-edition_in-e) → front_rules (file c) ≡ true → Told c
told c t = reads _ _ _ c.header_in-h.ensures c.edition_in-e.ensures.0 (front _ t)

-- all rules but those of the index, once they are tested
here : (c : Else-not-rest_ok) → Reads c.args.f.now c.edition_in-e.result c.header_in-h.result
here c =
    record {
      known = c.edition_in-e.ensures.1;
      least = omega (arith, c.if-f-e);
      edition = omega (arith, c.if-h-e);
      pictures = omega (arith, c.if-h-e-2);
      most = omega (arith, c.if-h-e-3);
      counts = omega (arith, c.if-h-kept);
      closing = omega (arith, c.if-closing-index, c.index_length.ensures);
      total = omega (arith, c.if-h-closing);
      size = omega (arith, c.if-h-f);
      rest = sym c.rest_ok.ensures ∙ c.if-not-rest_ok.false;
    }

pub returns-then-f-lt-FIELDS_LENGTH : goal.returns-then-f-lt-FIELDS_LENGTH
returns-then-f-lt-FIELDS_LENGTH c = refuted _ (λ t. let w = front _ t in omega (arith, w, c.if-f-lt-FIELDS_LENGTH))

pub returns-then-f-e : goal.returns-then-f-e
returns-then-f-e c = refuted _ (λ t. let w = told (goal.at.returns-then-f-e c).After-edition_in-e t in omega (arith, w, c.if-f-e))

pub returns-then-h-e : goal.returns-then-h-e
returns-then-h-e c = refuted _ (λ t. c.if-h-e.true (told (goal.at.returns-then-h-e c).After-edition_in-e t).edition)

pub returns-then-h-e-2 : goal.returns-then-h-e-2
returns-then-h-e-2 c = refuted _ (λ t. c.if-h-e-2.true (told (goal.at.returns-then-h-e-2 c).After-edition_in-e t).pictures)

pub returns-then-h-e-3 : goal.returns-then-h-e-3
returns-then-h-e-3 c =
    refuted _ (λ t. let w = told (goal.at.returns-then-h-e-3 c).After-edition_in-e t in omega (arith, w, c.if-h-e-3))

pub returns-then-h-kept : goal.returns-then-h-kept
returns-then-h-kept c =
    refuted _ (λ t. c.if-h-kept.true (told (goal.at.returns-then-h-kept c).After-edition_in-e t).counts)

pub returns-then-closing-index : goal.returns-then-closing-index
returns-then-closing-index c =
    refuted _ (λ t. let w = told (goal.at.returns-then-closing-index c).After-edition_in-e t in c.if-closing-index.true (omega (arith, w.closing, c.index_length.ensures)))

pub returns-then-h-closing : goal.returns-then-h-closing
returns-then-h-closing c =
    refuted _ (λ t. c.if-h-closing.true (told (goal.at.returns-then-h-closing c).After-edition_in-e t).total)

pub returns-then-h-f : goal.returns-then-h-f
returns-then-h-f c =
    refuted _ (λ t. c.if-h-f.true (told (goal.at.returns-then-h-f c).After-edition_in-e t).size)

pub returns-then-not-rest_ok : goal.returns-then-not-rest_ok
returns-then-not-rest_ok c =
    refuted _ (λ t. clash _ (told (goal.at.returns-then-not-rest_ok c).After-edition_in-e t).rest (sym c.rest_ok.ensures ∙ c.if-not-rest_ok.true))

pub returns : goal.returns
returns c =
    c.index_ok.ensures ∙ reads-is _ _ _ c.header_in-h.ensures c.edition_in-e.ensures.0 (here (goal.at.returns c).Else-not-rest_ok)
