pub mod ReadItems
