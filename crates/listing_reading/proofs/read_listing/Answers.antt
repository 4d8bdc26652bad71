-- `read_listing` meets its contract: the listing is counted, then the counts are tested, then its rows are stored and audited.
use native.Mathlib.Omega.{arith}
use mathlib.Core.List.{[]}
use mathlib.Core.Path.{◌≡◌, sym, ap, ◌∙◌}
use Rattle.std.specs.Result.{result_ok}
use Rattle.std.specs.Prelude.{Err}
use Rattle.std.proofs.lemmas.Grind.{common_steps}
use Rattle.listings.specs.declared.ListingRefusal.TheVariants.{NotListing}
use Rattle.tables.specs.Mesh.{mesh_of}
use Rattle.listings.proofs.ReadBack.{room_of}
use Rattle.listing_reading.proofs.Outcomes.{not-listing, is-listing, over, no_room, read, zeroes}
use Rattle.listing_reading.proofs.read_listing.Goals as goal

pub returns-in_err-c : goal.returns-in_err-c
returns-in_err-c c =
    let r : c.from_residual.result ≡ Err NotListing = grind (arith, common_steps) in
    not-listing _
    (mesh_of c.args.positions.now c.args.points.now c.args.edges.now c.args.intervals.now c.args.faces.now)
    c.listing_sizes.ensures (c.ok_or.ensures.ok_part ∙ ap result_ok c.in_err-c.was) r

pub returns-then-not-within_ceilings : goal.returns-then-not-within_ceilings
returns-then-not-within_ceilings c =
    over _
    (mesh_of c.args.positions.now c.args.points.now c.args.edges.now c.args.intervals.now c.args.faces.now)
    c.listing_sizes.ensures (c.ok_or.ensures.ok_part ∙ ap result_ok c.in_ok-c.was)
    (sym c.within_ceilings.ensures ∙ c.if-not-within_ceilings.true)

pub returns-then-not-rows_for : goal.returns-then-not-rows_for
returns-then-not-rows_for c =
    no_room _
    (mesh_of c.args.positions.now c.args.points.now c.args.edges.now c.args.intervals.now c.args.faces.now)
    c.listing_sizes.ensures (c.ok_or.ensures.ok_part ∙ ap result_ok c.in_ok-c.was)
    (sym c.within_ceilings.ensures
    ∙ c.if-not-within_ceilings.false)
    (sym c.rows_for.ensures ∙ c.if-not-rows_for.true)

pub store_rows-requires : goal.store_rows-requires
store_rows-requires c =
    is-listing _ (mesh_of [] [] [] [] []) c.listing_sizes.ensures (c.ok_or.ensures.ok_part ∙ ap result_ok c.in_ok-c.was)

pub returns-then-audit : goal.returns-then-audit
returns-then-audit c =
    read _
    (mesh_of c.args.positions.now c.args.points.now c.args.edges.now c.args.intervals.now c.args.faces.now)
    c.listing_sizes.ensures (c.ok_or.ensures.ok_part ∙ ap result_ok c.in_ok-c.was) (sym c.within_ceilings.ensures ∙ c.if-not-within_ceilings.false)
    (sym c.rows_for.ensures ∙ c.if-not-rows_for.false) _ _ _ _ _ c.store_rows.ensures.positions c.store_rows.ensures.points
    c.store_rows.ensures.edges c.store_rows.ensures.intervals c.store_rows.ensures.faces
    (sym c.audit.ensures ∙ c.if-audit.true)

pub zero_rows-requires : goal.zero_rows-requires
zero_rows-requires c =
    let m = mesh_of c.args.positions.now c.args.points.now c.args.edges.now c.args.intervals.now
    c.args.faces.now in record {
      position_width_in_bounds = let r = (room_of _ m (sym c.rows_for.ensures ∙ c.if-not-rows_for.false)).positions in
          omega arith;
      point_width_in_bounds = let bound = c.store_rows.auto.ps in
          let r = (room_of _ m (sym c.rows_for.ensures ∙ c.if-not-rows_for.false)).points in
          omega arith;
      edge_width_in_bounds = let bound = c.store_rows.auto.es in
          let r = (room_of _ m (sym c.rows_for.ensures ∙ c.if-not-rows_for.false)).edges in
          omega arith;
      edges_in_bounds = let bound = c.store_rows.auto.ds in
          let r = (room_of _ m (sym c.rows_for.ensures ∙ c.if-not-rows_for.false)).intervals in
          omega arith;
      face_width_in_bounds = let bound = c.store_rows.auto.fs in
          let r = (room_of _ m (sym c.rows_for.ensures ∙ c.if-not-rows_for.false)).faces in
          omega arith;
    }

pub returns : goal.returns
returns c =
    zeroes _
    (mesh_of c.args.positions.now c.args.points.now c.args.edges.now c.args.intervals.now c.args.faces.now)
    c.listing_sizes.ensures (c.ok_or.ensures.ok_part ∙ ap result_ok c.in_ok-c.was) (sym c.within_ceilings.ensures ∙ c.if-not-within_ceilings.false)
    (sym c.rows_for.ensures ∙ c.if-not-rows_for.false) _ _ _ _ _ c.store_rows.ensures.positions c.store_rows.ensures.points
    c.store_rows.ensures.edges c.store_rows.ensures.intervals c.store_rows.ensures.faces
    (sym c.audit.ensures ∙ c.if-audit.false) _ c.zero_rows.ensures
