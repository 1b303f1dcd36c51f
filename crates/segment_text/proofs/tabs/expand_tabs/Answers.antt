-- Each field, and what ends it, are written.
use Rattle.segment_text.proofs.Fields.{ends, step}
use Rattle.segment_text.proofs.tabs.expand_tabs.Goals as goal

pub returns-in_default : goal.returns-in_default
returns-in_default c =
    ends c.args.columns _ _ _ _ _ _ _ c.fields.invariant c.field_len.ensures.value c.split_at.ensures.front c.split_at.ensures.back c.in_default.ensures.cases c.in_ok-extend_from_slice.ensures.items

pub fields-preserved : goal.fields-preserved
fields-preserved c =
    step c.args.columns _ _ _ _ _ _ _ _ _ _ c.fields.invariant c.field_len.ensures.value c.split_at.ensures.front c.split_at.ensures.back c.in-Some.ensures.cases.0 c.in_ok-extend_from_slice.ensures.items c.in_ok-push_stop.ensures
