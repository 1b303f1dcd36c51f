use Rattle.std.proofs.Common.{◌≡◌, ◌+◌, ◌*◌, ◌≤◌, ◌∷◌, [], refl, ap, ◌∙◌, subst, arith}
use Rattle.std.specs.Prelude.{Some}
use Rattle.std.specs.Iterator.{YieldsFirst}
use Rattle.std.proofs.iter.SoFar.{more_by}
use Rattle.seg_text.specs.Boundaries.{offsets_left}
use Rattle.seg_text.specs.Items.{Text, code_points, start_of, text_before}
use Rattle.seg_wrap.specs.Walk.{line_extent}
use Rattle.seg_wrap.specs.Wrapping.{cluster_cell}
use Rattle.seg_wrap.proofs.Clusters.{cluster-within, clustering-end, clustering-next, clustering-room, clustering-small, next-cluster, starts}
use Rattle.seg_wrap.proofs.wrap.measure.of_clusters.Goals as goal

pub clusters-init : goal.clusters-init
clusters-init g c =
    starts _ _ _ c.boundaries-boundaries.result c.next-start.new.self c.next-start.result _ (ap g.I.Cursor.text c.fork.ensures) c.none-extent.ensures
    c.boundaries-boundaries.ensures.boundaries c.boundaries-boundaries.ensures.cover c.next-start.ensures.steps.1

pub up_to-requires : goal.up_to-requires
up_to-requires g c =
    let next = next-cluster _ _ _ _ _ _ _ (g.met.I.Cursor.rises c.args.text) c.clusters.invariant c.in-Some.ensures.steps.1 in
    (next.count, next.at)

pub of_cluster-requires : goal.of_cluster-requires
of_cluster-requires g c =
    let next = next-cluster _ _ _ _ _ _ _ (g.met.I.Cursor.rises c.args.text) c.clusters.invariant c.in-Some.ensures.steps.1 in
    omega (arith, ap (λ (t : Text). t.end) (c.up_to.ensures next.count next.at), next.at, next.within, c.requires)

pub joined-extent-requires-clause-room : goal.joined-extent-requires-clause-room
joined-extent-requires-clause-room g c =
    let next = next-cluster _ _ _ _ _ _ _ (g.met.I.Cursor.rises c.args.text) c.clusters.invariant c.in-Some.ensures.steps.1 in
    clustering-room _ _ _ _ c.next.new.self _ c.of_cluster.result _ c.clusters.invariant next c.requires
    (subst (λ (t : Text). c.of_cluster.result.inner_columns + 8 * start_of t ≤ 8 * t.end) (c.up_to.ensures next.count next.at) c.of_cluster.ensures.small)

pub joined-extent-requires-clause-within : goal.joined-extent-requires-clause-within
joined-extent-requires-clause-within g c = cluster-within _ _ c.of_cluster.ensures.measured

pub seek-requires : goal.seek-requires
seek-requires g c =
    let next = next-cluster _ _ _ _ _ _ _ (g.met.I.Cursor.rises c.args.text) c.clusters.invariant c.in-Some.ensures.steps.1 in
    (next.count, next.at)

-- rattle asks beside the invariant for what the loop was given: one place more
pub clusters-preserved-whole : goal.clusters-preserved-whole
clusters-preserved-whole g c =
    let next = next-cluster _ _ _ _ _ _ _ (g.met.I.Cursor.rises c.args.text) c.clusters.invariant c.in-Some.ensures.steps.1 in
    let part : g.I.Cursor.text c.up_to.result ≡ text_before next.count (g.I.Cursor.text c.clusters.text) = c.up_to.ensures next.count next.at in
    let kept =
    clustering-next _ _ _ _ _ _ _ _ _ _ c.clusters.invariant next c.joined-extent.ensures (c.seek.ensures next.count next.at)
    (c.of_cluster.ensures.measured ∙ ap (λ (t : Text). line_extent (cluster_cell (code_points t.items) ∷ [])) part)
    (subst (λ (t : Text). c.of_cluster.result.inner_columns + 8 * start_of t ≤ 8 * t.end) part c.of_cluster.ensures.small) in
    ((tt, tt), (_, (more_by (YieldsFirst offsets_left) {s = c.next-start.new.self} {t = c.clusters.boundaries} (c.clusters.yielded, c.clusters.yielded_by) (Some c.in-Some.end) c.next.new.self c.in-Some.ensures.steps.0 refl, kept)))

pub returns-clause-measured : goal.returns-clause-measured
returns-clause-measured g c = clustering-end _ _ _ _ _ c.clusters.invariant c.in_default.ensures.steps.1.0

pub returns-clause-small : goal.returns-clause-small
returns-clause-small g c = clustering-small _ _ _ _ _ (g.met.I.Cursor.rises c.args.text) c.clusters.invariant
