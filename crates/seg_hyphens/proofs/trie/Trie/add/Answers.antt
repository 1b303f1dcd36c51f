use Rattle.std.proofs.Common.{rules, refl, ◌<◌, ◌-◌, length}
use Rattle.std.specs.Vec.{with_item}
use Rattle.seg_hyphens.proofs.Nodes.{walk-inside}
use Rattle.seg_hyphens.proofs.Growing.{added-is, adds-to, read-digits, read-range}
use Rattle.seg_hyphens.proofs.trie.Trie.add.Goals as goal

pub index-requires : goal.index-requires
index-requires c =
    let inside : c.in_ok-node.node < length c.node_of.new.self.ranges.items =
    walk-inside _ _ _ c.in_ok-node.ensures.grows.is _ _ _ c.in_ok-node.ensures.grows.is.some c.in_ok-node.ensures.leads in
    search rules

pub push_merged-requires : goal.push_merged-requires
push_merged-requires c =
    read-range _ _ _ _ _ c.in_ok-node.ensures.grows.is
    (walk-inside _ _ _ c.in_ok-node.ensures.grows.is _ _ _ c.in_ok-node.ensures.grows.is.some c.in_ok-node.ensures.leads) c.index.ensures

pub index_mut-requires : goal.index_mut-requires
index_mut-requires c =
    let inside : c.in_ok-node.node < length c.node_of.new.self.ranges.items =
    walk-inside _ _ _ c.in_ok-node.ensures.grows.is _ _ _ c.in_ok-node.ensures.grows.is.some c.in_ok-node.ensures.leads in
    search rules

pub returns-clause-is : goal.returns-clause-is
returns-clause-is c =
    added-is c.node_of.new.self (with_item c.node_of.new.self.ranges c.in_ok-node.node (c.len-begin.result, c.len.result - c.len-begin.result)) c.push_merged.new.all _
    c.in_ok-node.node c.len-begin.result (c.len.result - c.len-begin.result) c.in_ok-node.ensures.grows.is
    (walk-inside _ _ _ c.in_ok-node.ensures.grows.is _ _ _ c.in_ok-node.ensures.grows.is.some c.in_ok-node.ensures.leads)
    c.in_ok-push_merged.ensures (search rules) (search rules) refl

pub returns-clause-adds : goal.returns-clause-adds
returns-clause-adds c =
    adds-to c.node_of.new.self (with_item c.node_of.new.self.ranges c.in_ok-node.node (c.len-begin.result, c.len.result - c.len-begin.result)) c.push_merged.new.all _
    c.in_ok-node.node c.len-begin.result (c.len.result - c.len-begin.result) c.in_ok-node.ensures.grows.is
    (walk-inside _ _ _ c.in_ok-node.ensures.grows.is _ _ _ c.in_ok-node.ensures.grows.is.some c.in_ok-node.ensures.leads)
    c.in_ok-push_merged.ensures (search rules) (search rules) refl c.args.self.now _ _ c.in_ok-node.ensures.grows c.in_ok-node.ensures.leads
    (read-digits _ _ _ _ _ (walk-inside _ _ _ c.in_ok-node.ensures.grows.is _ _ _ c.in_ok-node.ensures.grows.is.some c.in_ok-node.ensures.leads) c.index.ensures)
