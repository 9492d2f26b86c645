-- Instances of label edits and matching keys, worked by hand. Assumes nothing.
use Rattle.std.specs.Prelude.{◌≡◌, refl, [], ◌∷◌}
use Rattle.model.specs.Labels.{Labels}
use Rattle.model.specs.Edits.{remove_tags_on, remove_tags_ignoring, set_tags}
use Rattle.model.specs.Query.{all, on, ignoring, key_of}
use Rattle.model.specs.Computing.{computing}

abbrev many : Labels
many = (record {
  name = (102 ∷ 101 ∷ 100 ∷ []);
  tags =
      (record { key = (102 ∷ 111 ∷ 114 ∷ 109 ∷ []); value = (49 ∷ []) } ∷ record {
        key = (112 ∷ 114 ∷ 101 ∷ 115 ∷ 115 ∷ []);
        value =
            (65 ∷ []);
      } ∷ []);
})

abbrev one : Labels
one = (record {
  name = (114 ∷ 97 ∷ 116 ∷ 101 ∷ []);
  tags =
      (record { key = (112 ∷ 114 ∷ 101 ∷ 115 ∷ 115 ∷ []); value = (66 ∷ []) } ∷ record {
        key = (115 ∷ 116 ∷ 111 ∷ 99 ∷ 107 ∷ []);
        value =
            (83 ∷ []);
      } ∷ []);
})

-- keeps listed tags and clears the name
on_listed_lem : remove_tags_on ((112 ∷ 114 ∷ 101 ∷ 115 ∷ 115 ∷ []) ∷ (120 ∷ []) ∷ []) many
    ≡ (record { name = []; tags = (record { key = (112 ∷ 114 ∷ 101 ∷ 115 ∷ 115 ∷ []); value = (65 ∷ []) } ∷ []) })
unfolding computing
on_listed_lem = refl

-- unless `__name__` is listed
on_name : remove_tags_on ((95 ∷ 95 ∷ 110 ∷ 97 ∷ 109 ∷ 101 ∷ 95 ∷ 95 ∷ []) ∷ []) many ≡ (record { name = (102 ∷ 101 ∷ 100 ∷ []); tags = [] })
unfolding computing
on_name = refl

-- removes listed tags
ignoring_listed : remove_tags_ignoring ((112 ∷ 114 ∷ 101 ∷ 115 ∷ 115 ∷ []) ∷ []) many
    ≡ (record { name = (102 ∷ 101 ∷ 100 ∷ []); tags = (record { key = (102 ∷ 111 ∷ 114 ∷ 109 ∷ []); value = (49 ∷ []) } ∷ []) })
unfolding computing
ignoring_listed = refl

-- and the name if `__name__` is listed
ignoring_name : remove_tags_ignoring ((95 ∷ 95 ∷ 110 ∷ 97 ∷ 109 ∷ 101 ∷ 95 ∷ 95 ∷ []) ∷ []) many
    ≡ (record {
      name = [];
      tags =
          (record { key = (102 ∷ 111 ∷ 114 ∷ 109 ∷ []); value = (49 ∷ []) } ∷ record {
            key = (112 ∷ 114 ∷ 101 ∷ 115 ∷ 115 ∷ []);
            value =
                (65 ∷ []);
          } ∷ []);
    })
unfolding computing
ignoring_name = refl

ignoring_nothing : remove_tags_ignoring [] many ≡ many
unfolding computing
ignoring_nothing = refl

-- each join label is set from the source
set_value : set_tags ((112 ∷ 114 ∷ 101 ∷ 115 ∷ 115 ∷ []) ∷ (115 ∷ 116 ∷ 111 ∷ 99 ∷ 107 ∷ []) ∷ []) [] one many
    ≡ (record {
      name = (102 ∷ 101 ∷ 100 ∷ []);
      tags =
          (record { key = (102 ∷ 111 ∷ 114 ∷ 109 ∷ []); value = (49 ∷ []) } ∷ record {
            key = (112 ∷ 114 ∷ 101 ∷ 115 ∷ 115 ∷ []);
            value =
                (66 ∷ []);
          } ∷ record { key = (115 ∷ 116 ∷ 111 ∷ 99 ∷ 107 ∷ []); value = (83 ∷ []) } ∷ []);
    })
unfolding computing
set_value = refl

-- or removed if absent there
set_absent : set_tags ((102 ∷ 111 ∷ 114 ∷ 109 ∷ []) ∷ []) [] one many
    ≡ (record { name = (102 ∷ 101 ∷ 100 ∷ []); tags = (record { key = (112 ∷ 114 ∷ 101 ∷ 115 ∷ 115 ∷ []); value = (65 ∷ []) } ∷ []) })
unfolding computing
set_absent = refl

-- absent on both sides: nothing to remove
set_nothing : set_tags ((120 ∷ []) ∷ []) [] one many ≡ many
unfolding computing
set_nothing = refl

-- labels of the skip list stay
set_skipped : set_tags ((112 ∷ 114 ∷ 101 ∷ 115 ∷ 115 ∷ []) ∷ (115 ∷ 116 ∷ 111 ∷ 99 ∷ 107 ∷ []) ∷ []) ((112 ∷ 114 ∷ 101 ∷ 115 ∷ 115 ∷ []) ∷ []) one many
    ≡ (record {
      name = (102 ∷ 101 ∷ 100 ∷ []);
      tags =
          (record { key = (102 ∷ 111 ∷ 114 ∷ 109 ∷ []); value = (49 ∷ []) } ∷ record {
            key = (112 ∷ 114 ∷ 101 ∷ 115 ∷ 115 ∷ []);
            value =
                (65 ∷ []);
          } ∷ record { key = (115 ∷ 116 ∷ 111 ∷ 99 ∷ 107 ∷ []); value = (83 ∷ []) } ∷ []);
    })
unfolding computing
set_skipped = refl

-- `__name__` from the source's name
set_name : set_tags ((95 ∷ 95 ∷ 110 ∷ 97 ∷ 109 ∷ 101 ∷ 95 ∷ 95 ∷ []) ∷ []) [] one many
    ≡ (record {
      name = (114 ∷ 97 ∷ 116 ∷ 101 ∷ []);
      tags =
          (record { key = (102 ∷ 111 ∷ 114 ∷ 109 ∷ []); value = (49 ∷ []) } ∷ record {
            key = (112 ∷ 114 ∷ 101 ∷ 115 ∷ 115 ∷ []);
            value =
                (65 ∷ []);
          } ∷ []);
    })
unfolding computing
set_name = refl

set_name_skipped : set_tags ((95 ∷ 95 ∷ 110 ∷ 97 ∷ 109 ∷ 101 ∷ 95 ∷ 95 ∷ []) ∷ []) ((95 ∷ 95 ∷ 110 ∷ 97 ∷ 109 ∷ 101 ∷ 95 ∷ 95 ∷ []) ∷ []) one many ≡ many
unfolding computing
set_name_skipped = refl

-- `*` copies every tag outside the skip list, never the name, and removes none
set_star : set_tags ((42 ∷ []) ∷ []) ((115 ∷ 116 ∷ 111 ∷ 99 ∷ 107 ∷ []) ∷ []) one many
    ≡ (record {
      name = (102 ∷ 101 ∷ 100 ∷ []);
      tags =
          (record { key = (102 ∷ 111 ∷ 114 ∷ 109 ∷ []); value = (49 ∷ []) } ∷ record {
            key = (112 ∷ 114 ∷ 101 ∷ 115 ∷ 115 ∷ []);
            value =
                (66 ∷ []);
          } ∷ []);
    })
unfolding computing
set_star = refl

-- `*` is a label like another in a longer list
set_star_in_company : set_tags ((42 ∷ []) ∷ (115 ∷ 116 ∷ 111 ∷ 99 ∷ 107 ∷ []) ∷ []) [] one many
    ≡ (record {
      name = (102 ∷ 101 ∷ 100 ∷ []);
      tags =
          (record { key = (102 ∷ 111 ∷ 114 ∷ 109 ∷ []); value = (49 ∷ []) } ∷ record {
            key = (112 ∷ 114 ∷ 101 ∷ 115 ∷ 115 ∷ []);
            value =
                (65 ∷ []);
          } ∷ record { key = (115 ∷ 116 ∷ 111 ∷ 99 ∷ 107 ∷ []); value = (83 ∷ []) } ∷ []);
    })
unfolding computing
set_star_in_company = refl

-- a new tag finds its place
set_first : set_tags ((97 ∷ []) ∷ []) [] (record { name = []; tags = (record { key = (97 ∷ []); value = [] } ∷ []) }) many
    ≡ (record {
      name = (102 ∷ 101 ∷ 100 ∷ []);
      tags =
          (record { key = (97 ∷ []); value = [] } ∷ record { key = (102 ∷ 111 ∷ 114 ∷ 109 ∷ []); value = (49 ∷ []) } ∷ record {
            key =
                (112 ∷ 114 ∷ 101 ∷ 115 ∷ 115 ∷ []);
            value = (65 ∷ []);
          } ∷ []);
    })
unfolding computing
set_first = refl

key_all : key_of all []
    (record { key = (102 ∷ 111 ∷ 114 ∷ 109 ∷ []); value = (49 ∷ []) } ∷ record { key = (112 ∷ 114 ∷ 101 ∷ 115 ∷ 115 ∷ []); value = (65 ∷ []) } ∷ [])
    ≡ (record { key = (102 ∷ 111 ∷ 114 ∷ 109 ∷ []); value = (49 ∷ []) } ∷ record { key = (112 ∷ 114 ∷ 101 ∷ 115 ∷ 115 ∷ []); value = (65 ∷ []) } ∷ [])
unfolding computing
key_all = refl

key_on : key_of on ((112 ∷ 114 ∷ 101 ∷ 115 ∷ 115 ∷ []) ∷ [])
    (record { key = (102 ∷ 111 ∷ 114 ∷ 109 ∷ []); value = (49 ∷ []) } ∷ record { key = (112 ∷ 114 ∷ 101 ∷ 115 ∷ 115 ∷ []); value = (65 ∷ []) } ∷ [])
    ≡ (record { key = (112 ∷ 114 ∷ 101 ∷ 115 ∷ 115 ∷ []); value = (65 ∷ []) } ∷ [])
unfolding computing
key_on = refl

-- the name is never in the key, `on(__name__)` included
key_on_name : key_of on ((95 ∷ 95 ∷ 110 ∷ 97 ∷ 109 ∷ 101 ∷ 95 ∷ 95 ∷ []) ∷ [])
    (record { key = (102 ∷ 111 ∷ 114 ∷ 109 ∷ []); value = (49 ∷ []) } ∷ record { key = (112 ∷ 114 ∷ 101 ∷ 115 ∷ 115 ∷ []); value = (65 ∷ []) } ∷ [])
    ≡ []
unfolding computing
key_on_name = refl

key_ignoring : key_of ignoring ((112 ∷ 114 ∷ 101 ∷ 115 ∷ 115 ∷ []) ∷ [])
    (record { key = (102 ∷ 111 ∷ 114 ∷ 109 ∷ []); value = (49 ∷ []) } ∷ record { key = (112 ∷ 114 ∷ 101 ∷ 115 ∷ 115 ∷ []); value = (65 ∷ []) } ∷ [])
    ≡ (record { key = (102 ∷ 111 ∷ 114 ∷ 109 ∷ []); value = (49 ∷ []) } ∷ [])
unfolding computing
key_ignoring = refl
