-- The component values of the definition that parts of lists and single ones are.
use Rattle.std.proofs.Common.{◌≡◌, ◌∙◌, ap, sym, ℕ, suc, ◌+◌, ◌<◌, ◌≤◌, length, get_or, drop, drop-cons, add-one, List, Option}
use Rattle.std.proofs.lemmas.List.{drop_all}
use Rattle.css_model.specs.declared.token.Token.{Token}
use Rattle.css_model.specs.Components as model
use Rattle.css_model.specs.Components.{component, no_components, preserved, simple_block, function_block}
use Rattle.css_tokens.specs.declared.component.Component.{Component}
use Rattle.css_tokens.specs.declared.component.Component.TheVariants.{One, Block, Function, rolls-One, rolls-Block, rolls-Function}
use Rattle.css_tokens.specs.declared.component.Component.TheOpen.{Component-F}
use Rattle.css_tokens.specs.declared.component.Component.TheFolds.{fold-roll-Component}
use Rattle.css_tokens.specs.Nested.{nested_step, component_view, components_view}

-- the next one of a list
pub next_view : (cs : List Component) (i : ℕ) (c : Component) → i < length cs → c ≡ get_or cs i c
    → components_view (drop i cs) ≡ component (component_view c) (components_view (drop (i + 1) cs))
next_view cs i c h e =
    ap components_view (drop-cons cs i c h)
    ∙ (ap (λ d. component (component_view d) (components_view (drop (suc i) cs))) (sym e)
    ∙ ap (λ n. component (component_view c) (components_view (drop n cs))) (sym (add-one i)))

-- and its end
pub end_view : (cs : List Component) (i : ℕ) → length cs ≤ i → components_view (drop i cs) ≡ no_components
end_view cs i h = ap components_view (drop_all i cs h)

pub view_one : (c : Component) (t : Token) → c ≡ One t → component_view c ≡ preserved t
view_one c t e =
    ap component_view e
    ∙ (ap component_view (sym (rolls-One t))
    ∙ fold-roll-Component model.Component nested_step (Component-F.One t))

pub view_block : (c : Component) (head : Token) (contents : List Component) (close : Option Token)
    → c ≡ Block head contents close
    → component_view c ≡ simple_block head (components_view contents) close
view_block c head contents close e =
    ap component_view e
    ∙ (ap component_view (sym (rolls-Block head contents close))
    ∙ fold-roll-Component model.Component nested_step (Component-F.Block head contents close))

pub view_function : (c : Component) (head : Token) (contents : List Component) (close : Option Token)
    → c ≡ Function head contents close
    → component_view c ≡ function_block head (components_view contents) close
view_function c head contents close e =
    ap component_view e
    ∙ (ap component_view (sym (rolls-Function head contents close))
    ∙ fold-roll-Component model.Component nested_step (Component-F.Function head contents close))
