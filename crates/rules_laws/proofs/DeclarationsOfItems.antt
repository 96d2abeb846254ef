-- The declarations of the items of a list, one after another.
use Rattle.std.proofs.Common.{◌≡◌, ◌∙◌, ap, sym, refl, List, [], ◌∷◌, ◌++◌, true, false, Option, Some, None, append_assoc, append-nil}
use Rattle.std.specs.Option.{is_some}
use Rattle.css_model.specs.Components.{Component, Components, no_components, component}
use Rattle.css_model.specs.inner.Nesting.{followed}
use Rattle.rules_model.specs.ComponentLists.{ends_at_rule, is_semicolon, at_keyword_of}
use Rattle.rules_model.specs.Declarations.{Declaration, declaration_of, is_between_declarations, with_declaration, declarations_of, declarations_after_at_rule, declarations_after_semicolon}
use Rattle.rules_laws.specs.Parts.{NonePass}
use Rattle.rules_laws.specs.RuleLists.{BeginsAtRule}
use Rattle.rules_laws.specs.DeclarationLists.{DeclarationItem, between_declarations, at_rule, ended, item_components, items_components, IsPiece, IsItem, AreItems, item_declarations, items_declarations, DeclarationRest, nothing, open_at_rule, last, rest_components, IsRest, rest_declarations}
use Rattle.rules_laws.proofs.Apart.{keyword-whitespace, keyword-semicolon}
use Rattle.rules_laws.proofs.Lists.{followed-followed, followed-end, before-end, before-all}

keyword-between : (c : Component) → is_some (at_keyword_of c) ≡ true
    → is_between_declarations c ≡ false
keyword-between c e = rw (keyword-whitespace c e) (keyword-semicolon c e)

with-append : (d : Option Declaration) (ds : List Declaration)
    → with_declaration d ds ≡ with_declaration d [] ++ ds
with-append None ds = refl
with-append (Some d) ds = refl

-- ---- at-rules

after_at_rule-end : (prelude : Components) (end : Component) (cs : Components)
    → NonePass ends_at_rule prelude → ends_at_rule end ≡ true
    → declarations_after_at_rule (followed prelude (component end cs)) ≡ declarations_of cs
after_at_rule-end no_components end cs n e = rw e refl
after_at_rule-end (component c prelude) end cs n e = rw n.0 (after_at_rule-end prelude end cs n.1 e)

after_at_rule-none : (prelude : Components) → NonePass ends_at_rule prelude
    → declarations_after_at_rule prelude ≡ []
after_at_rule-none no_components n = refl
after_at_rule-none (component c prelude) n = rw n.0 (after_at_rule-none prelude n.1)

pub declarations-at_rule : (keyword : Component) (prelude : Components) (end : Component)
    (cs : Components)
    → BeginsAtRule keyword prelude → ends_at_rule end ≡ true
    → declarations_of (component keyword (followed prelude (component end cs))) ≡ declarations_of cs
declarations-at_rule keyword prelude end cs b e =
    rw (keyword-between keyword b.is_keyword, b.is_keyword)
    (after_at_rule-end prelude end cs b.no_end e)

declarations-open_at_rule : (keyword : Component) (prelude : Components)
    → BeginsAtRule keyword prelude → declarations_of (component keyword prelude) ≡ []
declarations-open_at_rule keyword prelude b =
    rw (keyword-between keyword b.is_keyword, b.is_keyword) (after_at_rule-none prelude b.no_end)

-- ---- pieces

after_semicolon-end : (piece : Components) (semicolon : Component) (cs : Components)
    → NonePass is_semicolon piece → is_semicolon semicolon ≡ true
    → declarations_after_semicolon (followed piece (component semicolon cs)) ≡ declarations_of cs
after_semicolon-end no_components semicolon cs n e = rw e refl
after_semicolon-end (component c piece) semicolon cs n e =
    rw n.0 (after_semicolon-end piece semicolon cs n.1 e)

after_semicolon-none : (piece : Components) → NonePass is_semicolon piece
    → declarations_after_semicolon piece ≡ []
after_semicolon-none no_components n = refl
after_semicolon-none (component c piece) n = rw n.0 (after_semicolon-none piece n.1)

pub declarations-piece : (piece : Components) (semicolon : Component) (cs : Components)
    → IsPiece piece → is_semicolon semicolon ≡ true
    → declarations_of (followed piece (component semicolon cs))
    ≡ with_declaration (declaration_of piece) (declarations_of cs)
declarations-piece no_components semicolon cs p e = absurd p
declarations-piece (component c piece) semicolon cs p e =
    rw (p.0, p.1, p.2.0)
    (ap (λ ds. with_declaration (declaration_of (component c ds))
    (declarations_after_semicolon (followed piece (component semicolon cs))))
    (before-end is_semicolon piece semicolon cs p.2.1 e)
    ∙ ap (with_declaration (declaration_of (component c piece)))
    (after_semicolon-end piece semicolon cs p.2.1 e))

pub declarations-last : (piece : Components) → IsPiece piece
    → declarations_of piece ≡ with_declaration (declaration_of piece) []
declarations-last no_components p = absurd p
declarations-last (component c piece) p =
    rw (p.0, p.1, p.2.0)
    (ap (λ ds. with_declaration (declaration_of (component c ds))
    (declarations_after_semicolon piece))
    (before-all is_semicolon piece p.2.1)
    ∙ ap (with_declaration (declaration_of (component c piece))) (after_semicolon-none piece p.2.1))

-- ---- items

declarations-item : (i : DeclarationItem) (cs : Components) → IsItem i
    → declarations_of (followed (item_components i) cs) ≡ item_declarations i ++ declarations_of cs
declarations-item (between_declarations c) cs is = rw is refl
declarations-item (at_rule keyword prelude end) cs is =
    ap (λ ds. declarations_of (component keyword ds))
    (followed-followed prelude (component end no_components) cs)
    ∙ declarations-at_rule keyword prelude end cs is.0 is.1
declarations-item (ended piece semicolon) cs is =
    ap declarations_of (followed-followed piece (component semicolon no_components) cs)
    ∙ (declarations-piece piece semicolon cs is.0 is.1
    ∙ with-append (declaration_of piece) (declarations_of cs))

pub declarations-items : (items : List DeclarationItem) (cs : Components) → AreItems items
    → declarations_of (followed (items_components items) cs)
    ≡ items_declarations items ++ declarations_of cs
declarations-items [] cs are = refl
declarations-items (i ∷ items) cs are =
    ap declarations_of (followed-followed (item_components i) (items_components items) cs)
    ∙ (declarations-item i (followed (items_components items) cs) are.0
    ∙ (ap (λ ds. item_declarations i ++ ds) (declarations-items items cs are.1)
    ∙ sym (append_assoc (item_declarations i) (items_declarations items) (declarations_of cs))))

pub declarations-joined : (items : List DeclarationItem) (cs : Components) → AreItems items
    → declarations_of (followed (items_components items) cs)
    ≡ declarations_of (items_components items) ++ declarations_of cs
declarations-joined items cs are =
    let only : declarations_of (items_components items) ≡ items_declarations items =
    ap declarations_of (sym (followed-end (items_components items)))
    ∙ (declarations-items items no_components are ∙ append-nil (items_declarations items)) in
    declarations-items items cs are ∙ ap (λ ds. ds ++ declarations_of cs) (sym only)

declarations-rest : (rest : DeclarationRest) → IsRest rest
    → declarations_of (rest_components rest) ≡ rest_declarations rest
declarations-rest nothing is = refl
declarations-rest (open_at_rule keyword prelude) is = declarations-open_at_rule keyword prelude is
declarations-rest (last piece) is = declarations-last piece is

pub declarations-all : (items : List DeclarationItem) (rest : DeclarationRest) → AreItems items
    → IsRest rest
    → declarations_of (followed (items_components items) (rest_components rest))
    ≡ items_declarations items ++ rest_declarations rest
declarations-all items rest are is =
    declarations-items items (rest_components rest) are
    ∙ ap (λ ds. items_declarations items ++ ds) (declarations-rest rest is)

-- ---- what adds none

dropped-at : (items : List DeclarationItem) (dropped rest : Components) → AreItems items
    → declarations_of dropped ≡ declarations_of rest
    → declarations_of (followed (items_components items) dropped)
    ≡ declarations_of (followed (items_components items) rest)
dropped-at items dropped rest are e =
    declarations-items items dropped are
    ∙ (ap (λ ds. items_declarations items ++ ds) e ∙ sym (declarations-items items rest are))

pub dropped-at_rule : (items : List DeclarationItem) (keyword : Component) (prelude : Components)
    (end : Component) (rest : Components)
    → AreItems items → BeginsAtRule keyword prelude → ends_at_rule end ≡ true
    → declarations_of (followed (items_components items)
    (component keyword (followed prelude (component end rest))))
    ≡ declarations_of (followed (items_components items) rest)
dropped-at_rule items keyword prelude end rest are b e =
    dropped-at items (component keyword (followed prelude (component end rest))) rest are
    (declarations-at_rule keyword prelude end rest b e)

pub dropped-bad : (items : List DeclarationItem) (piece : Components) (semicolon : Component)
    (rest : Components)
    → AreItems items → IsPiece piece → is_semicolon semicolon ≡ true → declaration_of piece ≡ None
    → declarations_of (followed (items_components items)
    (followed piece (component semicolon rest)))
    ≡ declarations_of (followed (items_components items) rest)
dropped-bad items piece semicolon rest are p e none =
    dropped-at items (followed piece (component semicolon rest)) rest are
    (declarations-piece piece semicolon rest p e
    ∙ ap (λ d. with_declaration d (declarations_of rest)) none)
