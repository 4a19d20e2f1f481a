-- What a turn of `load_state` and of `store_state` does: eight more bytes of v are put.
-- Assumes nothing.
use mathlib.Core.Path.{◌≡◌, sym, ap, ap₂, ◌∙◌}
use Prim.Native.Nat.{ℕ, ◌+◌, ◌*◌, ◌≤◌, ◌<◌}
use native.Mathlib.Omega.{arith}
use lib.ListN.{length, take, drop, length-drop}
use lib.Seq.{length-take-le, take-add}
use Rattle.bytes_le.specs.Bytes.{Bytes, put_bytes}
use Rattle.bytes_le.proofs.Laws.{put-put}
use Rattle.state_bytes.specs.StateBytes.{state_length, state_words}

pub eight-more : (l v : Bytes) (w : ℕ) (b e : Bytes) → w < state_words → state_length ≤ length l → state_length ≤ length v → b ≡ put_bytes l 0 (take (8 * w) v)
    → e ≡ take 8 (drop (8 * w) v) → put_bytes b (8 * w) e ≡ put_bytes l 0 (take (8 * (w + 1)) v)
eight-more l v w b e h hl hv q r =
    let n : 8 * w ≤ length v = omega arith in
    let lv : length (take (8 * w) v) ≡ 8 * w = length-take-le (8 * w) v n in
    let k : 8 ≤ length (drop (8 * w) v) = simp length-drop (omega arith) in
    let le : length (take 8 (drop (8 * w) v)) ≡ 8 = length-take-le 8 (drop (8 * w) v) k in
    let s : 8 * w + 8 ≡ 8 * (w + 1) = omega arith in
    ap₂ (λ (x y : Bytes). put_bytes x (8 * w) y) q r
    ∙ put-put l 0 (take (8 * w) v) (take 8 (drop (8 * w) v)) (8 * w) (omega arith) (omega arith)
    ∙ ap (put_bytes l 0) (sym (take-add (8 * w) 8 v) ∙ ap (λ (k : ℕ). take k v) s)
