use Rattle.dom_arena.specs.Slots.{name_in_slot}
use Rattle.std.proofs.Common.{Bool, [], ap, false, is_none, is_some, le-ltb, lt-ltb, nat_lt, rules, slice_get, sym, true, unwrap_or, ◌+◌, ◌∙◌, ◌∷◌, ◌≡◌, arith}
use Rattle.page_model.specs.Document.{Node, name_at}
use Rattle.page_model.specs.Edits.{child_count, height_at, is_within, level, tree_after_remove}
use Rattle.page_model.specs.Refusals.{first_of}
use Rattle.page_model.specs.declared.cause.Cause.TheVariants.{DepthLimit}
use Rattle.page_model.specs.declared.limits.TheConstants.{MAX_DEPTH}
use Rattle.dom_arena.specs.Reading.{tree_in}
use Rattle.dom_arena.specs.Stores.{Kept}
use Rattle.dom_arena.specs.Views.{kept}
use Rattle.dom_arena.proofs.MoveCauses.{tests-last, tests-past, tests-plain, tests-top, tests-within}
use Rattle.dom_arena.proofs.MoveTests.{both-there, is-plain, is-top, not-plain, not-top}
use Rattle.dom_arena.proofs.move_to.check_move.Goals as goal

pub returns-then-at-root : goal.returns-then-at-root
returns-then-at-root c =
    let k : Kept = kept c.args.store.now in
    let n : Node = tree_in k.slots c.args.root in
    ((λ e. cc), tests-top _ _ _ _ _ _ (both-there k c.args.root c.args.at c.args.parent c.requires.doc c.requires.node c.requires.parent) (is-top k c.args.root c.args.at c.requires.doc c.if-at-root.true))

pub returns-then-not-is_element_at : goal.returns-then-not-is_element_at
returns-then-not-is_element_at c =
    let k : Kept = kept c.args.store.now in
    let n : Node = tree_in k.slots c.args.root in
    let element : is_some (name_in_slot (slice_get k.slots c.args.parent)) ≡ false = search rules in
    ((λ e. cc), tests-plain _ _ _ _ _ _ (both-there k c.args.root c.args.at c.args.parent c.requires.doc c.requires.node c.requires.parent) (not-top k c.args.root c.args.at c.requires.doc c.if-at-root.false) (is-plain k c.args.root c.args.parent c.requires.doc c.requires.parent element))

pub returns-then-stands_within : goal.returns-then-stands_within
returns-then-stands_within c =
    let k : Kept = kept c.args.store.now in
    let n : Node = tree_in k.slots c.args.root in
    let element : is_some (name_in_slot (slice_get k.slots c.args.parent)) ≡ true = search rules in
    let plain : is_none (name_at c.args.parent n) ≡ false = not-plain k c.args.root c.args.parent c.requires.doc c.requires.parent element in
    let within : is_within c.args.at c.args.parent n ≡ true = sym (c.stands_within.ensures c.args.root c.requires.doc c.requires.node c.requires.parent c.if-at-root.false) ∙ c.if-stands_within.true in
    ((λ e. cc), tests-within _ _ _ _ _ _ (both-there k c.args.root c.args.at c.args.parent c.requires.doc c.requires.node c.requires.parent) (not-top k c.args.root c.args.at c.requires.doc c.if-at-root.false) plain within)

pub returns-then-index-children_without : goal.returns-then-index-children_without
returns-then-index-children_without c =
    let k : Kept = kept c.args.store.now in
    let n : Node = tree_in k.slots c.args.root in
    let element : is_some (name_in_slot (slice_get k.slots c.args.parent)) ≡ true = search rules in
    let plain : is_none (name_at c.args.parent n) ≡ false = not-plain k c.args.root c.args.parent c.requires.doc c.requires.parent element in
    let within : is_within c.args.at c.args.parent n ≡ false = sym (c.stands_within.ensures c.args.root c.requires.doc c.requires.node c.requires.parent c.if-at-root.false) ∙ c.if-stands_within.false in
    let count : c.children_without.result ≡ child_count c.args.parent (tree_after_remove c.args.at n) =
    c.children_without.ensures c.args.root c.requires.doc c.requires.node c.requires.parent c.if-at-root.false within in
    let past : nat_lt (child_count c.args.parent (tree_after_remove c.args.at n)) c.args.index ≡ true =
    lt-ltb (child_count c.args.parent (tree_after_remove c.args.at n)) c.args.index (omega (arith, c.if-index-children_without.true, count)) in
    ((λ e. cc), tests-past _ _ _ _ _ _ (both-there k c.args.root c.args.at c.args.parent c.requires.doc c.requires.node c.requires.parent) (not-top k c.args.root c.args.at c.requires.doc c.if-at-root.false) plain within past)

pub returns-then-is_too_deep : goal.returns-then-is_too_deep
returns-then-is_too_deep c =
    let k : Kept = kept c.args.store.now in
    let n : Node = tree_in k.slots c.args.root in
    let element : is_some (name_in_slot (slice_get k.slots c.args.parent)) ≡ true = search rules in
    let plain : is_none (name_at c.args.parent n) ≡ false = not-plain k c.args.root c.args.parent c.requires.doc c.requires.parent element in
    let within : is_within c.args.at c.args.parent n ≡ false = sym (c.stands_within.ensures c.args.root c.requires.doc c.requires.node c.requires.parent c.if-at-root.false) ∙ c.if-stands_within.false in
    let count : c.children_without.result ≡ child_count c.args.parent (tree_after_remove c.args.at n) =
    c.children_without.ensures c.args.root c.requires.doc c.requires.node c.requires.parent c.if-at-root.false within in
    let past : nat_lt (child_count c.args.parent (tree_after_remove c.args.at n)) c.args.index ≡ false =
    le-ltb (child_count c.args.parent (tree_after_remove c.args.at n)) c.args.index (omega (arith, c.if-index-children_without.false, count)) in
    let deep : nat_lt MAX_DEPTH (unwrap_or (level c.args.parent n) 0 + height_at c.args.at n) ≡ true =
    sym (c.is_too_deep.ensures c.args.root c.requires.doc c.requires.node c.requires.parent) ∙ c.if-is_too_deep.true in
    ((λ e. cc), tests-last _ _ _ _ _ _ (both-there k c.args.root c.args.at c.args.parent c.requires.doc c.requires.node c.requires.parent) (not-top k c.args.root c.args.at c.requires.doc c.if-at-root.false) plain within past ∙ ap (λ (b : Bool). first_of ((b, DepthLimit) ∷ [])) deep)

pub returns : goal.returns
returns c =
    let k : Kept = kept c.args.store.now in
    let n : Node = tree_in k.slots c.args.root in
    let element : is_some (name_in_slot (slice_get k.slots c.args.parent)) ≡ true = search rules in
    let plain : is_none (name_at c.args.parent n) ≡ false = not-plain k c.args.root c.args.parent c.requires.doc c.requires.parent element in
    let within : is_within c.args.at c.args.parent n ≡ false = sym (c.stands_within.ensures c.args.root c.requires.doc c.requires.node c.requires.parent c.if-at-root.false) ∙ c.if-stands_within.false in
    let count : c.children_without.result ≡ child_count c.args.parent (tree_after_remove c.args.at n) =
    c.children_without.ensures c.args.root c.requires.doc c.requires.node c.requires.parent c.if-at-root.false within in
    let past : nat_lt (child_count c.args.parent (tree_after_remove c.args.at n)) c.args.index ≡ false =
    le-ltb (child_count c.args.parent (tree_after_remove c.args.at n)) c.args.index (omega (arith, c.if-index-children_without.false, count)) in
    let deep : nat_lt MAX_DEPTH (unwrap_or (level c.args.parent n) 0 + height_at c.args.at n) ≡ false =
    sym (c.is_too_deep.ensures c.args.root c.requires.doc c.requires.node c.requires.parent) ∙ c.if-is_too_deep.false in
    tests-last _ _ _ _ _ _ (both-there k c.args.root c.args.at c.args.parent c.requires.doc c.requires.node c.requires.parent) (not-top k c.args.root c.args.at c.requires.doc c.if-at-root.false) plain within past ∙ ap (λ (b : Bool). first_of ((b, DepthLimit) ∷ [])) deep
