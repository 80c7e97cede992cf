-- Blocks with running requests, counted by region, and what a request has of one region.
pub mod UnderWay
pub mod OneRegion
