use Rattle.std.proofs.Common.{rules, ◌≡◌, ◌∙◌, ap, sym, ℕ, List, ◌++◌, codes, flat_map, string_bytes}
use Rattle.std.proofs.lemmas.Result.{on_ok_weaker}
use Rattle.value_model.specs.Calculations.{ComputedLength, largest, length_text, length_texts, smallest}
use Rattle.query_units.specs.declared.computed.Computed.TheFolds.{fold-roll-Computed}
use Rattle.query_units.specs.declared.computed.Computed.TheOpen.{Computed-F}
use Rattle.query_units.specs.declared.computed.Computed.TheViews as views
use Rattle.query_units.specs.Views.{all_computed_view, computed_step, computed_view}
use Rattle.reply_texts.specs.Words.{after_comma}
use Rattle.reply_texts.proofs.CallTexts.{of_list}
use Rattle.reply_texts.proofs.lengths.+lengths.Goals as goal

pub push_length-returns-in_ok-push_others-in-Min : goal.push_length-returns-in_ok-push_others-in-Min
push_length-returns-in_ok-push_others-in-Min t c =
    let old : List ℕ = string_bytes c.args.reply.now in
    let first : List ℕ = length_text (computed_view c.in-Min.first) in
    let others : List (List ℕ) = length_texts (all_computed_view c.in-Min.others) in
    let begun : string_bytes c.begin_call-in-Min.new.reply ≡ old ++ (codes "min" ++ codes "(") = search rules in
    let after_first : string_bytes c.push_length-in-Min.new.reply ≡ string_bytes c.begin_call-in-Min.new.reply ++ first = search rules in
    let after_others : string_bytes c.push_others.new.reply
    ≡ string_bytes c.push_length-in-Min.new.reply ++ flat_map after_comma others = search rules in
    let is : computed_view c.args.length.now ≡ smallest (computed_view c.in-Min.first) (all_computed_view c.in-Min.others) = ap computed_view c.in-Min.is
    ∙ (ap computed_view (sym (views.rolls-Min c.in-Min.first c.in-Min.others))
    ∙ fold-roll-Computed ComputedLength computed_step (Computed-F.Min c.in-Min.first c.in-Min.others)) in
    on_ok_weaker c.push_text-in-Min.result (λ closed. closed
    ∙ (ap (λ s. s ++ codes ")") (after_others ∙ ap (λ s. s ++ flat_map after_comma others)
    (after_first ∙ ap (λ s. s ++ first) begun))
    ∙ (of_list old (codes "min") first others ∙ ap (λ l. old ++ length_text l) (sym is)))) c.push_text-in-Min.ensures.text

pub push_length-returns-in_ok-push_others-in-Max : goal.push_length-returns-in_ok-push_others-in-Max
push_length-returns-in_ok-push_others-in-Max t c =
    let old : List ℕ = string_bytes c.args.reply.now in
    let first : List ℕ = length_text (computed_view c.in-Max.first) in
    let others : List (List ℕ) = length_texts (all_computed_view c.in-Max.others) in
    let begun : string_bytes c.begin_call-in-Max.new.reply ≡ old ++ (codes "max" ++ codes "(") = search rules in
    let after_first : string_bytes c.push_length-in-Max.new.reply ≡ string_bytes c.begin_call-in-Max.new.reply ++ first = search rules in
    let after_others : string_bytes c.push_others-in-Max.new.reply
    ≡ string_bytes c.push_length-in-Max.new.reply ++ flat_map after_comma others = search rules in
    let is : computed_view c.args.length.now ≡ largest (computed_view c.in-Max.first) (all_computed_view c.in-Max.others) = ap computed_view c.in-Max.is
    ∙ (ap computed_view (sym (views.rolls-Max c.in-Max.first c.in-Max.others))
    ∙ fold-roll-Computed ComputedLength computed_step (Computed-F.Max c.in-Max.first c.in-Max.others)) in
    on_ok_weaker c.push_text-in-Max.result (λ closed. closed
    ∙ (ap (λ s. s ++ codes ")") (after_others ∙ ap (λ s. s ++ flat_map after_comma others)
    (after_first ∙ ap (λ s. s ++ first) begun))
    ∙ (of_list old (codes "max") first others ∙ ap (λ l. old ++ length_text l) (sym is)))) c.push_text-in-Max.ensures.text
