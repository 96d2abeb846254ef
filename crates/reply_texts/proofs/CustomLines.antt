-- Lines of custom properties, one more at a time.
use Rattle.std.proofs.Common.{◌≡◌, ◌∙◌, ap, sym, refl, append_assoc, ℕ, zero, suc, ◌<◌, ◌+◌, List, [], ◌∷◌, ◌++◌, drop, flat_map, length, arith, add-one}
use Rattle.custom_model.specs.NamedValues.{NamedValues}
use Rattle.reply_model.specs.StyleText.{custom_line}
use Rattle.reply_texts.specs.inner.Customs.{line_at}

next : (values : NamedValues) (place : ℕ) → place < length values
    → flat_map (λ e. custom_line e.0 e.1) (drop place values)
    ≡ line_at values place ++ flat_map (λ e. custom_line e.0 e.1) (drop (suc place) values)
next [] place h = absurd (omega (arith, h))
next (v ∷ values) zero h = refl
next (v ∷ values) (suc place) h = next values place (omega (arith, h))

-- one line more was appended
pub appended_line : (values : NamedValues) (place end : ℕ) (old new whole : List ℕ) → place < end → end ≡ length values
    → new ≡ old ++ line_at values place
    → old ++ flat_map (λ e. custom_line e.0 e.1) (drop place values) ≡ whole
    → new ++ flat_map (λ e. custom_line e.0 e.1) (drop (place + 1) values) ≡ whole
appended_line values place end old new whole h is appended all =
    let rest : List ℕ = flat_map (λ e. custom_line e.0 e.1) (drop (suc place) values) in
    rw add-one (ap (λ l. l ++ rest) appended
    ∙ (append_assoc old (line_at values place) rest
    ∙ (ap (λ l. old ++ l) (sym (next values place (omega (arith, h, is)))) ∙ all)))
