-- What the work slice shows of the visited points.
pub mod Shows
