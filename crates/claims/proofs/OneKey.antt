-- One key for a whole survey: each field of the claim from the row of edition 2, and what a begun list's burst is named from `fine`.
-- Assumes nothing.
use mathlib.Core.Bool.{Bool, true, false, cond, not}
use mathlib.Core.Logic.{◌⊎◌, inl, inr}
use mathlib.Core.Path.{◌≡◌, refl, sym, ap, subst, ◌∙◌}
use Prim.Native.Nat.{ℕ, ◌-◌, ◌<◌, ◌^◌}
use native.Mathlib.Omega.{arith}
use borrow.Author.Tests.{eqb-false}
use lib.Dec.{eqb}
use lib.ListN.{length, take, drop, replicate, length-drop}
use lib.Seq.{length-take-le}
use Rattle.bytes_le.specs.Bytes.{Bytes, unle, le_at}
use Rattle.bytes_le.proofs.Laws.{unle-4, part-part}
use Rattle.bits.proofs.Cases.{and-true}
use Rattle.burst.specs.declared.Edition.{Edition}
use Rattle.burst.specs.declared.Recorder.{Recorder}
use Rattle.burst.specs.Editions.{edition1, edition2, editions, ◌among◌, numbered, written, has_camera, camera_held, no_camera}
use Rattle.burst.specs.Parts.{nonce_of, seal_part}
use Rattle.burst.specs.Layout.{Identity, header_rest, header_bytes, entry_bytes, record_bytes, closing_seal}
use Rattle.burst.specs.Numbers.{begin_number, keep_number, drop_number, close_number}
use Rattle.burst.specs.Index.{entry_rules, index_rules}
use Rattle.burst.specs.Recorder.{is_sound, new_recorder, no_recorder, begin_refusal, begin_answer, begin_buffer, drop_refusal, after_drop, drop_answer}
use Rattle.burst.specs.Recorder.{keep_refusal, after_keep, keep_answer, close_refusal, after_close, close_answer}
use Rattle.burst.proofs.Rows.{numbered-among}
use Rattle.burst.proofs.Rules.{not-holds}
use Rattle.burst.proofs.Numbers.{begins}
use Rattle.trace.specs.Plain.{keep_shot, drop_shot, close_burst, CallList, plain_of, plain_answers, header_of, index_of, file_of, total_of, number_of, accepted, value_of, after_call, answer_of, begun}
use Rattle.trace.specs.Trace.{next_recorder}
use Rattle.reader.specs.Front.{edition_in, camera_of, entries_at, rest_rules, front_rules_of, front_rules}
use Rattle.reader.specs.Reader.{check_answer}
use Rattle.reader.proofs.Rules.{FrontOf, front}
use Rattle.reader.proofs.Answers.{accepted as obeyed}
use Rattle.plain_text.specs.Text.{decimal}
use Rattle.listing.specs.Listing.{front_lines, head_lines, listing, shot_line, shot_lines}
use Rattle.claims.specs.OneKey.{Writes, Begins, Carries, SoundWithAny, File, Record, BegunAs, name_of, Nonces, Holds, Apart, FromOld, Front1, Front2, Fronts, Answers, OneKey, WorkedCamera}
use Rattle.claims.proofs.Demand1.{demand1}
use Rattle.claims.proofs.Lists.{fine}
use Rattle.claims.proofs.Accept.{zeros-are}

writes : Writes
unfolding written
writes l = refl

begin-is : (key : Bytes) (i : Identity) (buffer : Bytes) → Begins key i buffer
unfolding written new_recorder begin_refusal begin_answer begin_buffer
begin-is key i buffer = record {
  order = (demand1.begins key i buffer).order;
  zeroed = λ h. simp h;
  used = λ h. simp h;
  camera = λ h. simp h;
}

sound : SoundWithAny
unfolding is_sound
sound r camera = refl

file : File
unfolding file_of header_of header_bytes header_rest index_of closing_seal seal_part nonce_of
file p = refl

record_is : Record
unfolding record_bytes seal_part nonce_of
record_is key name shot offset stamp picture = refl

-- a call leaves what begin was given, whether it is refused or not
left : (z : Bool) (r next : Recorder) → next.burst_number ≡ r.burst_number → next.camera ≡ r.camera
    → ((cond z next r).burst_number ≡ r.burst_number) × ((cond z next r).camera ≡ r.camera)
left true r next b n = (b, n)
left false r next b n = (refl, refl)

carries : Carries
unfolding next_recorder keep_answer drop_answer close_answer after_keep after_drop after_close
carries r b (keep_shot s q) = left (eqb (keep_refusal r s q b) 0) r (after_keep r (length q)) refl refl
carries r b (drop_shot way) = left (eqb (drop_refusal r) 0) r (after_drop r) refl refl
carries r b close_burst = left (eqb (close_refusal r b) 0) r (after_close r) refl refl

-- ---- names
held : (e : Edition) (l : CallList) → BegunAs e l → (name_of e l).camera ≡ camera_held e l.identity.name.camera
held e l w = ap (λ (i : Identity). i.name.camera) (fine e l w.accepted).identity

-- 0 would have been refused
not-0 : (l : CallList) → BegunAs edition2 l → l.identity.name.camera ≡ 0 → ⊥
not-0 l w = eqb-false l.identity.name.camera 0 (begins edition2 _ _ _ _ w.accepted).camera

holds : Holds
holds l = (λ w. (held edition2 l w, λ z. not-0 l w (sym (held edition2 l w) ∙ z)), λ w. held edition1 l w)

nonces : Nonces
unfolding nonce_of
nonces l shot = (
  λ w. ap (λ (i : Identity). nonce_of edition2 i.name shot) (fine edition2 l w.accepted).identity,
  λ w. ap (λ (i : Identity). nonce_of edition1 i.name shot) (fine edition1 l w.accepted).identity,
)

-- a camera number that a burst holds has four bytes
below : (e : Edition) (l : CallList) → BegunAs e l → (name_of e l).camera < 256 ^ 4
below e l w = subst (λ (n : ℕ). n < 256 ^ 4) (sym (held e l w)) (by (has_camera e))
  where
    by : (b : Bool) → cond b l.identity.name.camera 0 < 256 ^ 4
    by true = w.named.1
    by false = omega arith

apart : Apart
unfolding nonce_of
apart e e' l l' w w' d shot shot' q =
    d
    (sym (unle-4 _ (below e l w))
    ∙ ap (λ (b : Bytes). unle (take 4 (drop 10 b))) q
    ∙ unle-4 _ (below e' l' w'))

from_old : FromOld
from_old l l' w w' = apart edition2 edition1 l l' w w' (λ q. ((holds l).0 w).1 (q ∙ (holds l').1 w'))

-- ---- fronts
front2 : (f : Bytes) → FrontOf edition2 f → Front2 f
unfolding rest_rules
front2 f w =
    let rules = and-true (not (no_camera edition2 (le_at 4 f 32))) _ w.rest in
    let least = w.least in
    let l : length (drop 36 (take 40 f)) ≡ 4 =
    length-drop 36 (take 40 f) ∙ (let t = length-take-le 40 f (omega arith) in let q : length (take 40 f) - 36 ≡ 4 = omega arith in q) in
    record {
      number = w.edition;
      least = w.least;
      most = w.most;
      pictures = w.pictures;
      camera = eqb-false _ 0 (not-holds _ rules.0);
      zeros = sym (part-part f 40 36 4 (omega arith)) ∙ ap (take 4) (zeros-are (drop 36 (take 40 f)) rules.1 ∙ ap (λ (n : ℕ). replicate n 0) l);
    }

-- of a file's row: which of the two it is, with what check answers
told : (f : Bytes) (e : Edition) → e among editions → FrontOf e f → (Front1 f × (camera_of e f ≡ 0)) ⊎ (Front2 f × (camera_of e f ≡ le_at 4 f 32))
unfolding le_at
told f e (inl h) w =
    let v = subst (λ (x : Edition). FrontOf x f) h w in
    inl (record { number = v.edition; least = v.least; most = v.most; pictures = v.pictures }, ap (λ (x : Edition). camera_of x f) h)
told f e (inr (inl h)) w = inr (front2 f (subst (λ (x : Edition). FrontOf x f) h w), ap (λ (x : Edition). camera_of x f) h)
told f e (inr (inr h)) w = absurd h

fronts : Fronts
fronts f h = by (told f (edition_in f) (numbered-among _) (front f h))
  where
    by : (Front1 f × (camera_of (edition_in f) f ≡ 0)) ⊎ (Front2 f × (camera_of (edition_in f) f ≡ le_at 4 f 32)) → Front1 f ⊎ Front2 f
    by (inl w) = inl w.0
    by (inr w) = inr w.0

answers : Answers
unfolding check_answer
answers key f h = by (told f (edition_in f) (numbered-among _) (obeyed key f h).front)
  where
    camera : (check_answer key f).camera ≡ camera_of (edition_in f) f
    camera = simp h

    by : (Front1 f × (camera_of (edition_in f) f ≡ 0)) ⊎ (Front2 f × (camera_of (edition_in f) f ≡ le_at 4 f 32))
        → (Front1 f × ((check_answer key f).camera ≡ 0)) ⊎ (Front2 f × ((check_answer key f).camera ≡ le_at 4 f 32))
    by (inl w) = inl (w.0, camera ∙ w.1)
    by (inr w) = inr (w.0, camera ∙ w.1)

pub one_key : OneKey
one_key = record {
  writes = writes;
  begins = begin-is;
  carries = carries;
  sound = sound;
  file = file;
  records = record_is;
  nonces = nonces;
  holds = holds;
  apart = apart;
  from_old = from_old;
  fronts = fronts;
  answers = answers;
}

pub worked-camera : WorkedCamera
unfolding numbered written header_rest rest_rules front_rules_of header_bytes nonce_of entry_bytes begin_number keep_number drop_number close_number
    total_of header_of index_of number_of accepted value_of after_call answer_of begun plain_of plain_answers le_at entry_rules index_rules entries_at front_rules decimal
    front_lines head_lines listing shot_line shot_lines is_sound new_recorder no_recorder
worked-camera = refl
