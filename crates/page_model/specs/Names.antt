-- The names of elements and attributes.
use Rattle.std.specs.List.{list_all, list_any}
use Rattle.std.specs.Prelude.{Bool, List, codes, length, nat_lt, not, ℕ, ◌&&◌, ◌==◌}
use Rattle.page_model.specs.declared.limits.TheConstants.{MAX_NAME}

-- U+0000 to U+0020 and U+007F never stand in a name, nor do these
abbrev pub is_name_code_point : ℕ → Bool
is_name_code_point c =
    nat_lt 32 c && (not (c == 127) && not (list_any (λ d. c == d) (codes "\"'<>/=")))

-- a name has at least one code point
abbrev pub is_name : List ℕ → Bool
is_name name = nat_lt 0 (length name)
    && (not (nat_lt MAX_NAME (length name)) && list_all is_name_code_point name)
