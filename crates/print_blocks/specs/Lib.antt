-- The work slice before and behind what is printed of a text's kept blocks.
pub mod Stand
