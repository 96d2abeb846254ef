-- Texts of calls, one part more at a time.
use Rattle.std.proofs.Common.{◌≡◌, ◌∙◌, ap, sym, ℕ, List, [], ◌∷◌, ◌++◌, codes, flat_map}
use Rattle.std.proofs.lemmas.List.{append_assoc, append-nil}
use Rattle.std.specs.List.{join_with_byte}
use Rattle.css_model.specs.Classes.{comma}
use Rattle.reply_texts.specs.Words.{after_comma}
use Rattle.value_model.specs.Calculations.{call_text}

joined : (first : List ℕ) (parts : List (List ℕ))
    → join_with_byte comma (first ∷ parts) ≡ first ++ flat_map after_comma parts
joined first [] = sym (append-nil first)
joined first (part ∷ parts) = ap (λ rest. first ++ (comma ∷ rest)) (joined part parts)

-- a call, where its parts were appended one after another
pub of_list : (old name first : List ℕ) (parts : List (List ℕ))
    → (((old ++ (name ++ codes "(")) ++ first) ++ flat_map after_comma parts) ++ codes ")"
    ≡ old ++ call_text name (first ∷ parts)
of_list old name first parts =
    let more : List ℕ = flat_map after_comma parts in
    append_assoc ((old ++ (name ++ codes "(")) ++ first) more (codes ")")
    ∙ (append_assoc (old ++ (name ++ codes "(")) first (more ++ codes ")")
    ∙ (append_assoc old (name ++ codes "(") (first ++ (more ++ codes ")"))
    ∙ ap (λ rest. old ++ rest) (append_assoc name (codes "(") (first ++ (more ++ codes ")"))
    ∙ ap (λ rest. name ++ (codes "(" ++ rest))
    (sym (append_assoc first more (codes ")")) ∙ ap (λ all. all ++ codes ")") (sym (joined first parts))))))
