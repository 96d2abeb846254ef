-- The selector list that a text is (Selectors 4, section 18).
use Rattle.std.specs.Prelude.{Option}
use Rattle.css_model.specs.Classes.{Text}
use Rattle.rules_model.specs.Sheets.{components_of}
use Rattle.selectors_model.specs.Grammar.{selector_list_within}
use Rattle.selectors_model.specs.Selectors.{SelectorList}

-- the selector list that the component values of a text spell, if they spell one and do not nest too deep
abbrev pub selector_list_of_text : Text → Option SelectorList
selector_list_of_text text = selector_list_within (components_of text)
