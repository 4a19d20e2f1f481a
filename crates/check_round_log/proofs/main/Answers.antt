use Rattle.std.proofs.Common.{arith, sym, length, ◌≤◌}
use Rattle.std.proofs.lemmas.List.{length-take-le}
use Rattle.round_log.specs.Findings.{answered}
use Rattle.check_round_log.proofs.Length.{line-length}
use Rattle.check_round_log.proofs.main.Goals as goal

-- The line is not longer than the room for it.
pub slice_bounds-text-end : goal.slice_bounds-text-end
slice_bounds-text-end c = omega (arith, line-length (answered c.check_log-answer.result), c.put_line-count.ensures.0, c.put_line-count.auto)

pub slice_bounds-write_all-end : goal.slice_bounds-write_all-end
slice_bounds-write_all-end c =
    let p : c.put_line-count.result ≤ length c.put_line-count.new.out = omega (arith, line-length (answered c.check_log-answer.result), c.put_line-count.ensures.0, c.put_line-count.auto) in
    sym (length-take-le c.put_line-count.result c.put_line-count.new.out p)
