-- 2026-01: what one report adds to the totals of those before it, and when 64 bits hold them.
use Rattle.std.specs.Prelude.{◌+◌, ◌^◌, ◌<◌, ◌≡◌, cond, ◌&&◌}
use Rattle.theory.specs.Report.{Report, Totals, is_built, is_small}
use Rattle.site.specs.declared.totals.Totals as declared

abbrev pub values : declared.Totals → Totals
values t = record { built = t.built; states = t.states; powers = t.powers; few = t.few }

-- A report that is refused adds nothing, and one with m above 10 nothing to the last two.
abbrev pub of_one : Report → Totals
of_one r = record {
  built = cond (is_built r) 1 0;
  states = cond (is_built r) r.states 0;
  powers = cond (is_built r && is_small r) (2 ^ r.letters) 0;
  few = cond (is_built r && is_small r) r.states 0;
}

abbrev pub plus : Totals → Totals → Totals
plus t s = record { built = t.built + s.built; states = t.states + s.states; powers = t.powers + s.powers; few = t.few + s.few }

abbrev pub with_report : Totals → Report → Totals
with_report t r = plus t (of_one r)

pub record Fits (t : Totals) : Type 0 where
  pub built : t.built < 2 ^ 64
  pub states : t.states < 2 ^ 64
  pub powers : t.powers < 2 ^ 64
  pub few : t.few < 2 ^ 64

-- Where nothing is refused, there is an entry. It keeps out a refusal with number 0.
abbrev pub HasEntry : Report → Type 0
HasEntry r = r.refusal.number ≡ 0 → 0 < r.entries
