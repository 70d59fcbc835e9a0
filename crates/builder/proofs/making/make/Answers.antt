-- `make` meets its contract: state 0 stands and the rest follows from it, or a need exceeds its room.
use Rattle.std.proofs.Common.{rules, refl, sym, subst, ◌∙◌, arith}
use Rattle.theory.proofs.WellFormed.{well_formed}
use Rattle.builder.specs.Progress.{Knows}
use Rattle.builder.proofs.Lengths.{same_arcs}
use Rattle.builder.proofs.Starting.{standing_root}
use Rattle.builder.proofs.Using.{gathered_knows}
use Rattle.builder.proofs.Handing.{rooms_as, columns_as, made_not, made_of, made_started}
use Rattle.builder.proofs.making.make.Goals as goal

pub returns-in_err-start-clause-reaches : goal.returns-in_err-start-clause-reaches
returns-in_err-start-clause-reaches c =
    made_not _ (rooms_as c.min.ensures c.min-2.ensures refl) (c.in_err-start.ensures.begun _) _ c.from_residual.ensures.0 _

pub gather-requires : goal.gather-requires
gather-requires c = omega (arith, (well_formed _ c.requires.right_value).lengths.0)

pub fill-requires-clause-started : goal.fill-requires-clause-started
fill-requires-clause-started c =
    let r = c.start.ensures.same_rows in
    let s = c.start.ensures.same_states in
    made_started (c.in_ok-start.ensures.begun _) (rooms_as c.min.ensures c.min-2.ensures refl) c.requires.blank
    (record {
      kind = r.kind.length;
      left = r.left.length;
      right = r.right.length;
      expression = s.expression.length;
      accepting = s.accepting.length;
      arcs = same_arcs;
    })
    (rooms_as (r.room ∙ c.min.ensures) (s.room ∙ c.min-2.ensures) c.min-3.ensures)

pub fill-requires-clause-knows : goal.fill-requires-clause-knows
fill-requires-clause-knows c =
    subst (Knows c.gather.result) (sym (standing_root (c.in_ok-start.ensures.begun 0)))
    (gathered_knows _ _ c.args.given.right.now c.gather.result c.gather.ensures)

pub returns-in_err-fill-clause-reaches : goal.returns-in_err-fill-clause-reaches
returns-in_err-fill-clause-reaches c =
    let r = c.start.ensures.same_rows in
    let s = c.start.ensures.same_states in
    let m = made_of _ (rooms_as (r.room ∙ c.min.ensures) (s.room ∙ c.min-2.ensures) c.min-3.ensures) (standing_root (c.in_ok-start.ensures.begun 0)) refl
    c.in_err-fill.ensures.reaches in
    made_not _ refl m.goes _ c.from_residual-in_err-fill.ensures.0 _

pub returns-clause-reaches : goal.returns-clause-reaches
returns-clause-reaches c =
    let r = c.start.ensures.same_rows in
    let s = c.start.ensures.same_states in
    made_of _ (rooms_as (r.room ∙ c.min.ensures) (s.room ∙ c.min-2.ensures) c.min-3.ensures) (standing_root (c.in_ok-start.ensures.begun 0))
    (columns_as c.fill.new.rows c.fill.new.states c.fill.new.arcs (search rules) (search rules) (search rules) (search rules) (search rules) (search rules) (search rules) (search rules))
    c.in_ok-fill.ensures.reaches
