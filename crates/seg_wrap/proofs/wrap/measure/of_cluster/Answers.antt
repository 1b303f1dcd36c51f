use Rattle.std.proofs.Common.{◌≡◌, ◌+◌, ◌*◌, ◌≤◌, refl, ap, ◌∙◌, subst, arith}
use Rattle.seg_text.specs.Items.{Text, code_points, start_of}
use Rattle.seg_wrap.specs.Walk.{line_extent}
use Rattle.seg_wrap.specs.Wrapping.{by_characters, cluster_width}
use Rattle.seg_wrap.proofs.Clusters.{cluster-measured, small-shown, small-summed, width-shown, width-summed}
use Rattle.seg_wrap.proofs.wrap.measure.of_cluster.Goals as goal
use Rattle.seg_wrap.proofs.wrap.measure.of_cluster.Goals.{in-Some, in-None}

pub returns-clause-measured : goal.returns-clause-measured
returns-clause-measured g c =
    let same : g.I.Cursor.text c.fork.result ≡ g.I.Cursor.text c.args.cluster = ap g.I.Cursor.text c.fork.ensures in
    let are : c.of_text-characters.result ≡ line_extent (by_characters (code_points (g.I.Cursor.text c.args.cluster).items)) =
    c.of_text-characters.ensures.measured ∙ ap (λ (t : Text). line_extent (by_characters (code_points t.items))) same in
    let wide : c.match-shown.width ≡ cluster_width (code_points (g.I.Cursor.text c.args.cluster).items) =
    elim c.match-shown.branch [
      | in-Some w ↦
          w.width-is
          ∙ width-shown _ w.as_str.result.now _ w.as_str.utf8 (w.as_str.ensures.value ∙ w.in-Some.ensures.some) w.as_str.ensures.fits w.width.ensures.value
      | in-None w ↦ w.width-is ∙ width-summed _ _ are (w.in-None.ensures.none refl)
    ] in
    cluster-measured _ _ _ _ are wide c.of_cell.ensures

pub returns-clause-small : goal.returns-clause-small
returns-clause-small g c =
    let same : g.I.Cursor.text c.fork.result ≡ g.I.Cursor.text c.args.cluster = ap g.I.Cursor.text c.fork.ensures in
    elim c.match-shown.branch [
      | in-Some w ↦
          small-shown (g.I.Cursor.text c.args.cluster) w.as_str.result.now _ _ _ (g.met.I.Cursor.rises c.args.cluster)
          (w.as_str.ensures.value ∙ w.in-Some.ensures.some) (omega (arith, w.width-is, w.width.ensures.bound)) c.of_cell.ensures
      | in-None w ↦
          small-summed (g.I.Cursor.text c.args.cluster) c.of_text-characters.result _ _ _ (g.met.I.Cursor.rises c.args.cluster)
          (subst (λ (t : Text). c.of_text-characters.result.inner_columns + 3 * start_of t ≤ 3 * t.end) same c.of_text-characters.ensures.small)
          w.width-is c.of_cell.ensures
    ]
