-- build meets its contract: the tests of grounds 2 to 4 in the definition's order, then the faces.
use mathlib.Core.Path.{◌∙◌, refl, sym}
use Rattle.tables.specs.Mesh.{mesh_of}
use Rattle.built_meshes.specs.Lent.{lists_of}
use Rattle.building.proofs.Outcomes.{numbers-same, refused-counts, refused-numbers, refused-rows, begun-build, promised}
use Rattle.building.proofs.build.Goals as goal

pub counts_fit-requires : goal.counts_fit-requires
counts_fit-requires c =
    tt

pub returns-then-not-counts_fit : goal.returns-then-not-counts_fit
returns-then-not-counts_fit c =
    let whole = promised (refused-counts c.args.bounds
    (lists_of c.args.lists.now)
    (mesh_of c.args.positions.now c.args.points.now c.args.edges.now c.args.intervals.now c.args.faces.now)
    (sym c.counts_fit.ensures ∙ c.if-not-counts_fit.true)) in record { fact = whole.0; result_value = whole.1 }

pub numbers_fit-requires : goal.numbers_fit-requires
numbers_fit-requires c =
    tt

pub returns-then-not-numbers_fit : goal.returns-then-not-numbers_fit
returns-then-not-numbers_fit c =
    let whole = promised (refused-numbers c.args.bounds (lists_of c.args.lists.now)
    (mesh_of c.args.positions.now c.args.points.now c.args.edges.now c.args.intervals.now c.args.faces.now)
    (sym c.counts_fit.ensures ∙ c.if-not-counts_fit.false)
    (sym (numbers-same c.args.lists.now.version c.args.lists.now.coordinates.now c.args.lists.now.sides.now
    c.args.lists.now.firsts.now c.args.lists.now.listed.now c.args.lists.now.beside.now) ∙ sym c.numbers_fit.ensures
    ∙ c.if-not-numbers_fit.true)) in
    record { fact = whole.0; result_value = whole.1 }

pub rows_for-requires : goal.rows_for-requires
rows_for-requires c =
    tt

pub shape_of-positions-then-not-rows_for : goal.shape_of-positions-then-not-rows_for
shape_of-positions-then-not-rows_for c =
    refl

pub shape_of-points-then-not-rows_for : goal.shape_of-points-then-not-rows_for
shape_of-points-then-not-rows_for c =
    refl

pub shape_of-edges-then-not-rows_for : goal.shape_of-edges-then-not-rows_for
shape_of-edges-then-not-rows_for c =
    refl

pub shape_of-intervals-then-not-rows_for : goal.shape_of-intervals-then-not-rows_for
shape_of-intervals-then-not-rows_for c =
    refl

pub shape_of-faces-then-not-rows_for : goal.shape_of-faces-then-not-rows_for
shape_of-faces-then-not-rows_for c =
    refl

pub returns-then-not-rows_for : goal.returns-then-not-rows_for
returns-then-not-rows_for c =
    let l = lists_of c.args.lists.now in let m = mesh_of c.args.positions.now c.args.points.now c.args.edges.now c.args.intervals.now
    c.args.faces.now in let whole = promised (refused-rows c.args.bounds l m
    (sym c.counts_fit.ensures ∙ c.if-not-counts_fit.false)
    (sym (numbers-same c.args.lists.now.version c.args.lists.now.coordinates.now c.args.lists.now.sides.now
    c.args.lists.now.firsts.now c.args.lists.now.listed.now c.args.lists.now.beside.now) ∙ sym c.numbers_fit.ensures
    ∙ c.if-not-numbers_fit.false)
    (sym c.rows_for.ensures ∙ c.if-not-rows_for.true)) in record { fact = whole.0; result_value = whole.1 }

pub build_begun-requires : goal.build_begun-requires
build_begun-requires c =
    record {
      bounds = c.args.bounds;
      counts = (sym c.counts_fit.ensures ∙ c.if-not-counts_fit.false);
      numbers = (sym (numbers-same c.args.lists.now.version c.args.lists.now.coordinates.now c.args.lists.now.sides.now
          c.args.lists.now.firsts.now c.args.lists.now.listed.now c.args.lists.now.beside.now) ∙ sym c.numbers_fit.ensures ∙ c.if-not-numbers_fit.false);
      rows = (sym c.rows_for.ensures
          ∙ c.if-not-rows_for.false);
    }

pub shape_of-positions : goal.shape_of-positions
shape_of-positions c =
    c.build_begun.auto.positions

pub shape_of-points : goal.shape_of-points
shape_of-points c =
    c.build_begun.auto.points

pub shape_of-edges : goal.shape_of-edges
shape_of-edges c =
    c.build_begun.auto.edges

pub shape_of-intervals : goal.shape_of-intervals
shape_of-intervals c =
    c.build_begun.auto.intervals

pub shape_of-faces : goal.shape_of-faces
shape_of-faces c =
    c.build_begun.auto.faces

pub returns : goal.returns
returns c =
    let l = lists_of c.args.lists.now in let m = mesh_of c.args.positions.now c.args.points.now c.args.edges.now c.args.intervals.now
    c.args.faces.now in let whole = promised (begun-build c.args.bounds l m _
    (sym c.counts_fit.ensures ∙ c.if-not-counts_fit.false)
    (sym (numbers-same c.args.lists.now.version c.args.lists.now.coordinates.now c.args.lists.now.sides.now
    c.args.lists.now.firsts.now c.args.lists.now.listed.now c.args.lists.now.beside.now) ∙ sym c.numbers_fit.ensures ∙ c.if-not-numbers_fit.false)
    (sym c.rows_for.ensures ∙ c.if-not-rows_for.false) c.build_begun.ensures) in record { fact = whole.0; result_value = whole.1 }
