-- The text of a query.
use Rattle.std.specs.Prelude.{ℕ, List, ◌++◌, codes, Option, Some, None}
use Rattle.std.specs.List.{join_by}

-- The texts, with the separator between each two.
abbrev pub joined_by : List ℕ → List (List ℕ) → List ℕ
joined_by separator texts = join_by (λ text. text) separator texts

-- The query of these columns of this table, with these conditions if there are any.
abbrev pub query_text : List (List ℕ) → List ℕ → Option (List (List ℕ)) → List ℕ
query_text columns table None =
    codes "SELECT " ++ joined_by (codes ", ") columns ++ codes " FROM " ++ table
query_text columns table (Some conditions) =
    codes "SELECT " ++ joined_by (codes ", ") columns ++ codes " FROM " ++ table
    ++ codes " WHERE " ++ joined_by (codes " AND ") conditions
