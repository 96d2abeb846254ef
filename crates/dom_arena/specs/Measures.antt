-- What the limits of documents ask of a tree; numbers end at the greatest of their type.
use Rattle.std.specs.Prelude.{◌+◌, ◌-◌, ◌^◌, ◌||◌, List, false, length, max, min, nat_lt}
use Rattle.std.specs.List.{list_any}
use Rattle.page_model.specs.Trees.{Attribute, Text, Tree, Trees, depth, depths, has_bad_name, has_long_text, has_many_attributes, have_node, is_badly_named, is_long, size, sizes, text_size, text_sizes, value_size}
use Rattle.page_model.specs.declared.limits.TheConstants.{MAX_ATTRIBUTES}
use Rattle.page_model.specs.Edits.{Taken}
use Rattle.dom_arena.specs.declared.limits.Taken as counted
use Rattle.dom_arena.specs.declared.sizes.Measured.{Measured}

abbrev pub measure_of : Tree → Measured
measure_of t = record {
  levels = min (depth t) (2 ^ 32 - 1);
  nodes = min (size t) (2 ^ 32 - 1);
  code_points = min (text_size t) (2 ^ 64 - 1);
  bad_name = has_bad_name t;
  many_attributes = has_many_attributes t;
  long_text = has_long_text t;
}

-- what these trees have together
abbrev pub measures_of : Trees → Measured
measures_of ts = record {
  levels = min (depths ts) (2 ^ 32 - 1);
  nodes = min (sizes ts) (2 ^ 32 - 1);
  code_points = min (text_sizes ts) (2 ^ 64 - 1);
  bad_name = have_node is_badly_named (λ _. false) ts;
  many_attributes = have_node (λ _ attributes. nat_lt MAX_ATTRIBUTES (length attributes)) (λ _. false) ts;
  long_text = have_node (λ _ attributes. list_any (λ (a : Attribute). is_long a.1) attributes) is_long ts;
}

abbrev pub joined : Measured → Measured → Measured
joined a b = record {
  levels = max a.levels b.levels;
  nodes = min (a.nodes + b.nodes) (2 ^ 32 - 1);
  code_points = min (a.code_points + b.code_points) (2 ^ 64 - 1);
  bad_name = a.bad_name || b.bad_name;
  many_attributes = a.many_attributes || b.many_attributes;
  long_text = a.long_text || b.long_text;
}

-- what an element has by itself, besides its level
abbrev pub own_measures : Text → List Attribute → Measured
own_measures name attributes = record {
  levels = 0;
  nodes = 1;
  code_points = min (value_size attributes) (2 ^ 64 - 1);
  bad_name = is_badly_named name attributes;
  many_attributes = nat_lt MAX_ATTRIBUTES (length attributes);
  long_text = list_any (λ (a : Attribute). is_long a.1) attributes;
}

abbrev pub one_level_more : Measured → Measured
one_level_more m = record m { levels = min (m.levels + 1) (2 ^ 32 - 1) }

-- what an element has, the children of which have `below`
abbrev pub with_element : Text → List Attribute → Measured → Measured
with_element name attributes below = one_level_more (joined (own_measures name attributes) below)

-- what is taken of the limits
abbrev pub taken_of : counted.Taken → Taken
taken_of t = record { level = t.level; nodes = t.nodes; ids = t.ids; code_points = t.code_points }
