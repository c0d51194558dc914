-- The layout of the work slice: where each table begins, how many words it has and while which stages it stands. A word serves two tables by turns
-- only where these never stand together. Assumes nothing.
--     together     tables that stand together do not overlap
--     needed       the words that the tables need
--     low          no table reaches word 8,192
use Rattle.std.specs.Prelude.{◌≡◌, refl, Bool, true, ◌&&◌, ◌||◌, List, [], ◌∷◌, ℕ, ◌+◌, leb, ltb}

-- reading: the ctrl line that last had an entry for a region, by region
abbrev pub entered_at : ℕ
entered_at = 0

abbrev pub entered_end : ℕ
entered_end = 128

-- refusal 5: marks of nodes, ops or regions, by number; then the parents of regions, with the stamps of climbs behind them
abbrev pub seen_at : ℕ
seen_at = 0

abbrev pub around_at : ℕ
around_at = 0

abbrev pub stamps_at : ℕ
stamps_at = 128

-- the roots that are done, the last one first, so that they end where the next table begins
abbrev pub roots_at : ℕ
roots_at = 384

abbrev pub roots_end : ℕ
roots_end = 512

-- by region: the ctrl lines, the marks of children and the marks of the control-flow walk
abbrev pub lines_at : ℕ
lines_at = 512

abbrev pub children_at : ℕ
children_at = 640

abbrev pub marks_at : ℕ
marks_at = 768

-- where what the control-flow walk writes ends
abbrev pub tables_end : ℕ
tables_end = 896

-- the visited points in their order, as numbers
abbrev pub points_at : ℕ
points_at = 896

abbrev pub points_end : ℕ
points_end = 1408

-- by region: the node that it is a child of
abbrev pub parents_at : ℕ
parents_at = 1408

abbrev pub parents_end : ℕ
parents_end = 1536

-- by point: how often it is used
abbrev pub uses_at : ℕ
uses_at = 1536

abbrev pub uses_end : ℕ
uses_end = 2048

-- by position: the kept block in which its point stands, and whether that absorbs the next one
abbrev pub statuses_at : ℕ
statuses_at = 2048

abbrev pub absorbs_at : ℕ
absorbs_at = 2560

abbrev pub absorbs_end : ℕ
absorbs_end = 3072

-- new ids: of region inputs by region, of node outputs by node, of results by op, and of labels by point
abbrev pub ids_at : ℕ
ids_at = 3072

abbrev pub input_ids_at : ℕ
input_ids_at = 3072

abbrev pub output_ids_at : ℕ
output_ids_at = 3200

abbrev pub result_ids_at : ℕ
result_ids_at = 3328

abbrev pub label_ids_at : ℕ
label_ids_at = 3840

abbrev pub ids_end : ℕ
ids_end = 4352

-- edges: the first one into each point, and by edge the next one into the same point and where it comes from
abbrev pub heads_at : ℕ
heads_at = 4352

abbrev pub nexts_at : ℕ
nexts_at = 4864

abbrev pub origins_at : ℕ
origins_at = 5888

abbrev pub origins_end : ℕ
origins_end = 6912

-- the first word that no table has: what the work slice needs
abbrev pub work_need : ℕ
work_need = 6912

-- A table stands from one stage up to another. The stages: 0 reading, 1 refusal 5's marks, 2 its climbs, 3 the control-flow walk and the walk over
-- points, 4 the kept blocks, 5 ids and edges.
record Table : Type 0 where
  start : ℕ
  room : ℕ
  from : ℕ
  to : ℕ

table : ℕ → ℕ → ℕ → ℕ → Table
table a n p q = record { start = a; room = n; from = p; to = q }

end_of : Table → ℕ
end_of t = t.start + t.room

tables : List Table
unfolding table
tables =
    table entered_at 128 0 0
    ∷ table seen_at 512 1 1
    ∷ table around_at 128 2 2
    ∷ table stamps_at 128 2 2
    ∷ table roots_at 128 3 3
    ∷ table lines_at 128 3 5
    ∷ table children_at 128 3 3
    ∷ table marks_at 128 3 3
    ∷ table points_at 512 3 5
    ∷ table parents_at 128 3 5
    ∷ table uses_at 512 4 5
    ∷ table statuses_at 512 4 5
    ∷ table absorbs_at 512 4 5
    ∷ table input_ids_at 128 5 5
    ∷ table output_ids_at 128 5 5
    ∷ table result_ids_at 512 5 5
    ∷ table label_ids_at 512 5 5
    ∷ table heads_at 512 5 5
    ∷ table nexts_at 1024 5 5
    ∷ table origins_at 1024 5 5
    ∷ []

every : (Table → Bool) → List Table → Bool
every f [] = true
every f (t ∷ ts) = f t && every f ts

apart : Table → Table → Bool
unfolding end_of
apart s t = leb (end_of s) t.start || leb (end_of t) s.start || ltb s.to t.from || ltb t.to s.from

sound : List Table → Bool
unfolding every apart
sound [] = true
sound (t ∷ ts) = every (apart t) ts && sound ts

together : sound tables ≡ true
unfolding tables table sound every apart end_of
together = refl

-- every table ends by `work_need`, and one ends there
needed : (every (λ t. leb (end_of t) work_need) tables && leb work_need (end_of (table origins_at 1024 5 5))) ≡ true
unfolding tables table every end_of
needed = refl

low : every (λ t. leb (end_of t) 8192) tables ≡ true
unfolding tables table every end_of
low = refl
