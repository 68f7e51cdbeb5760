use Rattle.std.proofs.Common.{◌∙◌}
use Rattle.memory_index.proofs.Laws.{walking_none, walking_here, walking_less, walking_next, walking_all, head_of, before_of}
use borrow.Author.Rules.{rules}
use Rattle.memory_index.proofs.SlotIndex.find.Goals as goal

pub loop-p-init : goal.loop-p-init
loop-p-init c =
    let h = c.requires.hashed in
    walking_none _ _ _ _ _ _ c.requires.indexed h.0 h.1 (c.from-p.ensures ∙ head_of _ _ _ c.self.view_is c.self.told.0 _ h.2)

pub returns-then-same : goal.returns-then-same
returns-then-same c = search (walking_here, rules)

pub loop-p-smaller : goal.loop-p-smaller
loop-p-smaller c =
    walking_less _ _ _ _ c.loop-p.invariant c.loop-p-test.true _ c.question.ensures.0 _ c.same.ensures _ c.requires.indexed _
    (c.from-p-in-loop-p.ensures ∙ before_of _ _ _ c.self.view_is c.self.told.0 _)

pub loop-p-preserved : goal.loop-p-preserved
loop-p-preserved c =
    walking_next _ _ _ _ c.loop-p.invariant c.loop-p-test.true _ c.question.ensures.0 _ c.same.ensures _ c.requires.indexed _
    (c.from-p-in-loop-p.ensures ∙ before_of _ _ _ c.self.view_is c.self.told.0 _) c.if-same.false

pub returns : goal.returns
returns c = search (walking_all, rules)
